use Rattle.std.proofs.Common.{◌≡◌, drop}
use Rattle.class_heads.specs.Written.{with_declarations}
use Rattle.class_heads.proofs.written.push_declarations.Given as goal

abbrev pub invariant-loop-declaration : goal.invariant-loop-declaration
invariant-loop-declaration l = with_declarations l.file l.written (drop l.declaration-index l.declarations) ≡ with_declarations l.file l.fn.written l.declarations
