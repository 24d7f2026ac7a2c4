use Rattle.std.proofs.Common.{Some, ◌∙◌}
use Rattle.std.specs.Prelude.{string_bytes}
use Rattle.source_loading.specs.Reading.{IsUtf8Name}
use Rattle.source_loading.proofs.Told.{read_told, comes_back}
use Rattle.source_loading.proofs.reading.read_named.Goals as goal

pub returns-in-Ok-Some-clause-told : goal.returns-in-Ok-Some-clause-told
returns-in-Ok-Some-clause-told g c =
    let named : IsUtf8Name c.args.name.now (Some (string_bytes c.in-Ok-Some.name)) = rw c.in-Ok-Some.field-0-is at c.in-Ok-Some.ensures in
    read_told (g.S.Source.files c.args.source.now) c.args.name.now c.as_str.result.now c.read.result named.0 (c.as_str.ensures.value ∙ named.1) c.read.ensures.told c.read.ensures.within

pub returns-in-Ok-Some-clause-name : goal.returns-in-Ok-Some-clause-name
returns-in-Ok-Some-clause-name g c = comes_back c.args.name.now c.type_inv.name

pub returns-in-Err-clause-name : goal.returns-in-Err-clause-name
returns-in-Err-clause-name g c = comes_back c.args.name.now c.type_inv.name
