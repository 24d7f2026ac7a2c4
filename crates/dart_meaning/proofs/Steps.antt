-- What an answer that came to something says of the steps before it.
use Rattle.std.proofs.Common.{◌≡◌, Bool, true, false, cond, Option, Some, None, refl}
use Rattle.std.specs.Option.{option_map_or}
use Rattle.dart_meaning.specs.Meaning.{◌>>=◌}

pub some_same : {A : Type 0} (x y : A) → Some x ≡ Some y → x ≡ y
some_same x y e = cc

-- a step that another one follows
pub after : {A B : Type 0} (first : Option A) (next : A → Option B) (got : B) (P : Type 0) → (first >>= next) ≡ Some got → ((a : A) → first ≡ Some a → next a ≡ Some got → P) → P
after None next got P e k = cc
after (Some a) next got P e k = k a refl e

-- a step that another one follows only where it came to something
pub either : {A B : Type 0} (first : Option A) (next : A → Option B) (other : Option B) (got : B) (P : Type 0) → option_map_or next first other ≡ Some got → ((a : A) → first ≡ Some a → next a ≡ Some got → P) → (first ≡ None → other ≡ Some got → P) → P
either None next other got P e some none = none refl e
either (Some a) next other got P e some none = some a refl e

-- a test that came out so
pub chosen : {X : Type 0} (t : Bool) (x z : X) → cond t (Some x) None ≡ Some z → (t ≡ true) × (x ≡ z)
chosen true x z e = (refl, cc)
chosen false x z e = cc

pub unless : {X : Type 0} (t : Bool) (x z : X) → cond t None (Some x) ≡ Some z → (t ≡ false) × (x ≡ z)
unless true x z e = cc
unless false x z e = (refl, cc)
