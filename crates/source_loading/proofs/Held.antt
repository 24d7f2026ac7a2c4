-- What is held under a new name doesn't change what is loaded before it is asked for.
use Rattle.std.proofs.Common.{◌≡◌, ℕ, suc, ◌+◌, ◌≤◌, Bool, true, false, cond, List, [], ◌∷◌, ◌++◌, length, Option, Some, None, inl, inr, refl, sym, ap, ◌∙◌, subst, arith}
use Rattle.std.specs.Prelude.{slice_get}
use Rattle.std.specs.List.{AllByRecursion}
use Rattle.std.specs.Str.{bytes_eq}
use Rattle.std.specs.Char.Utf16.{has_unpaired_surrogate}
use Rattle.code_units.specs.Text.{units_of, utf8_of}
use Rattle.outside.specs.Outside.{Held}
use Rattle.dart_syntax.specs.declared.rules.Rule.{Rule}
use Rattle.dart_program.specs.declared.files.SourceFile.{SourceFile}
use Rattle.dart_program.specs.Loading.{Asked, asked, held_as, content, Loads, none, next, IsFine, Breaks, absent, many, long, full, text}
use Rattle.source_loading.specs.Tells.{Agrees}
use Rattle.source_loading.specs.Reading.{ComesBack}
use Rattle.source_loading.proofs.Once.{tells, name_same, clash}
use Rattle.source_loading.proofs.Names.{all_front, all_last, HasOtherKey, new_key}

-- ---- what is held of one name decides

pub fine_held : (held other : Held) (n before : ℕ) (x : Asked) (bytes : List ℕ) (file : SourceFile) → content held x ≡ content other x → IsFine other n before x bytes file → IsFine held n before x bytes file
fine_held held other n before x bytes file e fine = record { name = fine.name; held_so = e ∙ fine.held_so; few = fine.few; small = fine.small; room = fine.room; tree = fine.tree }

pub breaks_held : (held other : Held) (n before : ℕ) (x : Asked) (rule : Rule) (file at : ℕ) → content held x ≡ content other x → Breaks other n before x rule file at → Breaks held n before x rule file at
breaks_held held other n before x rule file at e (absent c) = absent (e ∙ c)
breaks_held held other n before x rule file at e (many c more) = many (e ∙ c) more
breaks_held held other n before x rule file at e (long c few more) = long (e ∙ c) few more
breaks_held held other n before x rule file at e (full c few small more) = full (e ∙ c) few small more
breaks_held held other n before x rule file at e (text c few small room breaks) = text (e ∙ c) few small room breaks

-- ---- one thing more is held

put : Held → List ℕ → Option (List ℕ) → Held
put held key v = λ other. cond (bytes_eq key other) v (held other)

put_here : (held : Held) (key : List ℕ) (v : Option (List ℕ)) → put held key v key ≡ v
unfolding put
put_here held key v = ap (λ b. cond b v (held key)) (name_same key key refl)

put_elsewhere : (held : Held) (key other : List ℕ) (v : Option (List ℕ)) → bytes_eq key other ≡ false → put held key v other ≡ held other
unfolding put
put_elsewhere held key other v f = ap (λ b. cond b v (held other)) f

-- names with a lone surrogate don't matter
held_as_put : (held : Held) (key : List ℕ) (v : Option (List ℕ)) (name bytes : List ℕ) → (has_unpaired_surrogate name ≡ false → bytes_eq key (utf8_of name) ≡ false) → held_as held name ≡ Some bytes → held_as (put held key v) name ≡ Some bytes
held_as_put held key v name bytes apart is = by (has_unpaired_surrogate name) refl where
  by : (b : Bool) → has_unpaired_surrogate name ≡ b → held_as (put held key v) name ≡ Some bytes
  by true t = let none : None ≡ Some bytes = sym (ap (λ b. cond b None (held (utf8_of name))) t) ∙ is in absurd cc
  by false f =
      ap (λ b. cond b None (put held key v (utf8_of name))) f
      ∙ put_elsewhere held key (utf8_of name) v (apart f)
      ∙ sym (ap (λ b. cond b None (held (utf8_of name))) f) ∙ is

content_put : (held : Held) (key : List ℕ) (v : Option (List ℕ)) (x : Option (List ℕ)) (file at : ℕ) (name bytes : List ℕ) → x ≡ Some name → (has_unpaired_surrogate name ≡ false → bytes_eq key (utf8_of name) ≡ false)
    → content held (record { name = x; file = file; at = at }) ≡ Some bytes → content (put held key v) (record { name = x; file = file; at = at }) ≡ Some bytes
content_put held key v None file at name bytes e apart is = absurd cc
content_put held key v (Some own) file at name bytes e apart is =
    let same : own ≡ name = cc in
    held_as_put held key v own bytes (subst (λ n. has_unpaired_surrogate n ≡ false → bytes_eq key (utf8_of n) ≡ false) (sym same) apart) is

loads_put : (held : Held) (key : List ℕ) (v : Option (List ℕ)) (entry : List ℕ) (files : List SourceFile) (size : ℕ) → Loads held entry files size → AllByRecursion (HasOtherKey key) files → Loads (put held key v) entry files size
loads_put held key v entry files size none others = none
loads_put held key v entry files size (next {files = before} {size = sum} {x = x} {bytes = bytes} {file = f} l at fine) others =
    next (loads_put held key v entry before sum l (all_front (HasOtherKey key) before f others)) at
    (record {
      name = fine.name;
      held_so = content_put held key v x.name x.file x.at f.name bytes fine.name (all_last (HasOtherKey key) before f others) fine.held_so;
      few = fine.few;
      small = fine.small;
      room = fine.room;
      tree = fine.tree;
    })

-- ---- one that is held, and one that agrees with it so far

-- Something is held of which both hold: the files are loaded from it, and it has this content.
pub record IsJoined (told : Option Held) (entry : List ℕ) (files : List SourceFile) (size : ℕ) (x : Asked) (c : Option (List ℕ)) : Type 0 where
  pub held : Held
  pub agrees : Agrees told held
  pub loads : Loads held entry files size
  pub content_is : content held x ≡ c

nameless : (held : Held) (x : Option (List ℕ)) (file at : ℕ) → x ≡ None → content held (record { name = x; file = file; at = at }) ≡ None
nameless held None file at e = refl
nameless held (Some name) file at e = absurd cc

unpaired : (held : Held) (x : Option (List ℕ)) (file at : ℕ) (name : List ℕ) → x ≡ Some name → has_unpaired_surrogate name ≡ true → content held (record { name = x; file = file; at = at }) ≡ None
unpaired held None file at name e t = absurd cc
unpaired held (Some own) file at name e t = let same : own ≡ name = cc in ap (λ n. cond (has_unpaired_surrogate n) None (held (utf8_of n))) same ∙ ap (λ b. cond b None (held (utf8_of name))) t

named : (held : Held) (x : Option (List ℕ)) (file at : ℕ) (name : List ℕ) → x ≡ Some name → has_unpaired_surrogate name ≡ false → content held (record { name = x; file = file; at = at }) ≡ held (utf8_of name)
named held None file at name e f = absurd cc
named held (Some own) file at name e f = let same : own ≡ name = cc in ap (λ n. cond (has_unpaired_surrogate n) None (held (utf8_of n))) same ∙ ap (λ b. cond b None (held (utf8_of name))) f

module _ (held other : Held) (entry : List ℕ) (files : List SourceFile) (size : ℕ) (x : Asked) (loads : Loads held entry files size) (at : slice_get (asked entry files) (length files) ≡ Some x) where
  joined_none : x.name ≡ None → IsJoined None entry files size x (content other x)
  joined_none e = record { held = held; agrees = tt; loads = loads; content_is = nameless held x.name x.file x.at e ∙ sym (nameless other x.name x.file x.at e) }

  joined_unpaired : (name : List ℕ) → x.name ≡ Some name → has_unpaired_surrogate name ≡ true → IsJoined None entry files size x (content other x)
  joined_unpaired name e t = record { held = held; agrees = tt; loads = loads; content_is = unpaired held x.name x.file x.at name e t ∙ sym (unpaired other x.name x.file x.at name e t) }

  joined_named : (name : List ℕ) → x.name ≡ Some name → has_unpaired_surrogate name ≡ false → ComesBack name → AllByRecursion (λ f. ComesBack f.name) files → IsJoined None entry files size x (content other x)
  joined_named name e f back backs = record {
    held = put held (utf8_of name) (other (utf8_of name));
    agrees = tt;
    loads = loads_put held (utf8_of name) (other (utf8_of name)) entry files size loads (new_key held entry files size x name loads at e (back f) backs);
    content_is = named (put held (utf8_of name) (other (utf8_of name))) x.name x.file x.at name e f ∙ put_here held (utf8_of name) (other (utf8_of name)) ∙ sym (named other x.name x.file x.at name e f);
  }

  joined_any : (name : Option (List ℕ)) → x.name ≡ name → ((own : List ℕ) → x.name ≡ Some own → ComesBack own) → AllByRecursion (λ f. ComesBack f.name) files → IsJoined None entry files size x (content other x)
  joined_any None e back backs = joined_none e
  joined_any (Some name) e back backs = elim (tells (has_unpaired_surrogate name)) [
    | inl t ↦ joined_unpaired name e t
    | inr f ↦ joined_named name e f (back name e) backs
  ]

pub joined : (told : Option Held) (held other : Held) (entry : List ℕ) (files : List SourceFile) (size : ℕ) (x : Asked) → Agrees told held → Agrees told other → Loads held entry files size
    → slice_get (asked entry files) (length files) ≡ Some x → ((own : List ℕ) → x.name ≡ Some own → ComesBack own) → AllByRecursion (λ f. ComesBack f.name) files → IsJoined told entry files size x (content other x)
joined None held other entry files size x a b loads at back backs = joined_any held other entry files size x loads at x.name refl back backs
joined (Some told) held other entry files size x a b loads at back backs = record { held = held; agrees = a; loads = loads; content_is = ap (λ (h : Held). content h x) (a ∙ sym b) }
