-- The names of the natives.
use Rattle.std.specs.Prelude.{ℕ, List, Option, find, codes}
use Rattle.std.specs.Str.{bytes_eq}
use Rattle.dart_store.specs.declared.natives.Native.{Native}
use Rattle.dart_store.specs.declared.natives.Native.TheVariants as n
use Rattle.dart_store.specs.declared.natives.TheConstants.{NATIVES}

abbrev pub name_of : Native → List ℕ
name_of n.Print = codes "print"
name_of n.Soon = codes "soon"
name_of n.ObjectText = codes "objectText"
name_of n.IntAdd = codes "intAdd"
name_of n.IntSub = codes "intSub"
name_of n.IntMul = codes "intMul"
name_of n.IntNeg = codes "intNeg"
name_of n.IntDiv = codes "intDiv"
name_of n.IntMod = codes "intMod"
name_of n.IntLess = codes "intLess"
name_of n.IntMore = codes "intMore"
name_of n.IntUpTo = codes "intUpTo"
name_of n.IntFrom = codes "intFrom"
name_of n.IntText = codes "intText"
name_of n.TextJoin = codes "textJoin"
name_of n.TextLength = codes "textLength"
name_of n.TextUnit = codes "textUnit"
name_of n.TextPart = codes "textPart"
name_of n.TextOrder = codes "textOrder"
name_of n.ListNew = codes "listNew"
name_of n.ListLength = codes "listLength"
name_of n.ListAt = codes "listAt"
name_of n.ListPut = codes "listPut"
name_of n.ListAdd = codes "listAdd"
name_of n.ListDrop = codes "listDrop"
name_of n.MapNew = codes "mapNew"
name_of n.MapLength = codes "mapLength"
name_of n.MapAt = codes "mapAt"
name_of n.MapPut = codes "mapPut"
name_of n.MapHas = codes "mapHas"
name_of n.MapDrop = codes "mapDrop"
name_of n.MapKeys = codes "mapKeys"

-- the native of this name
abbrev pub native_of : List ℕ → Option Native
native_of name = find (λ native. bytes_eq (name_of native) name) NATIVES
