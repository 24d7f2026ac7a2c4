-- Members found one after another are those of all parts.
use Rattle.std.proofs.Common.{◌≡◌, ℕ, zero, suc, ◌+◌, Bool, true, false, cond, List, [], ◌∷◌, ◌++◌, Option, Some, None, refl, sym, ap, ◌∙◌}
use Rattle.std.specs.Prelude.{map, ◌||◌}
use Rattle.std.specs.List.{list_any}
use Rattle.std.proofs.lemmas.List.{append_assoc, append-nil}
use Rattle.dart_grammar.specs.declared.trees.Variable.{Variable}
use Rattle.dart_grammar.specs.declared.declarations.Declaration.{Declaration}
use Rattle.dart_grammar.specs.declared.declarations.Declaration.TheVariants as d
use Rattle.dart_grammar.specs.declared.declarations.Member.{Member}
use Rattle.dart_grammar.specs.declared.declarations.Member.TheVariants as m
use Rattle.dart_grammar.specs.declared.declarations.Class.{Class}
use Rattle.dart_program.specs.declared.files.SourceFile.{SourceFile}
use Rattle.dart_sites.specs.declared.surroundings.Owner.TheVariants as o
use Rattle.class_heads.specs.Written.{nameless}
use Rattle.class_heads.specs.Rules.{is_constructor}
use Rattle.class_heads.specs.Sources.{Sources}
use Rattle.class_members.specs.declared.members.Construction.{Construction}
use Rattle.class_members.specs.declared.members.MemberKind.TheVariants as k
use Rattle.class_members.specs.declared.members.MemberNode.{MemberNode}
use Rattle.class_members.specs.Constructions.{constructions, lacks_implicit}
use Rattle.class_members.specs.Members.{node, place, variables_from, of_member, of_body, forwarded, all_forwarded, implied, of_class, of_declaration, classes_made, of_declarations, all_made, of_files, members}
use Rattle.class_members.specs.Steps.{with_one, with_variables, with_member, with_members, with_forwarded, with_all_forwarded, with_implied, with_class, with_declaration, with_declarations, with_files}

variables_are : (file : ℕ) (class : Option ℕ) (j : ℕ) (member : Option ℕ) (before : List MemberNode) (i : ℕ) (xs : List Variable) → with_variables file class j member before i xs ≡ before ++ variables_from file class j member i xs
variables_are file class j member before i [] = sym (append-nil before)
variables_are file class j member before i (x ∷ xs) =
    variables_are file class j member (with_one file class (place j member i) before) (suc i) xs
    ∙ append_assoc before (node file class (place j member i) ∷ []) (variables_from file class j member (suc i) xs)

member_is : (file c j n : ℕ) (before : List MemberNode) (x : Member) → with_member file c j n before x ≡ before ++ of_member file c j n x
member_is file c j n before (m.Function is_static x) = refl
member_is file c j n before (m.Getter is_static x) = refl
member_is file c j n before (m.Setter is_static x) = refl
member_is file c j n before (m.Fields is_static at xs) = variables_are file (Some c) j (Some n) before 0 xs.items
member_is file c j n before (m.Operator x) = refl
member_is file c j n before (m.Constructor x) = refl

body_is : (file c j n : ℕ) (before : List MemberNode) (xs : List Member) → with_members file c j n before xs ≡ before ++ of_body file c j n xs
body_is file c j n before [] = sym (append-nil before)
body_is file c j n before (x ∷ xs) =
    ap (λ ys. with_members file c j (suc n) ys xs) (member_is file c j n before x)
    ∙ (body_is file c j (suc n) (before ++ of_member file c j n x) xs ∙ append_assoc before (of_member file c j n x) (of_body file c j (suc n) xs))

forwarded_are : (file c : ℕ) (before : List MemberNode) (xs : List Construction) → with_forwarded file c before xs ≡ before ++ map (forwarded file c) xs
forwarded_are file c before [] = sym (append-nil before)
forwarded_are file c before (x ∷ xs) =
    forwarded_are file c (with_one file (Some c) (k.Forwarded x) before) xs ∙ append_assoc before (forwarded file c x ∷ []) (map (forwarded file c) xs)

all_forwarded_are : (p : Sources) (file : ℕ) (before : List MemberNode) (c n : ℕ) → with_all_forwarded p file before c n ≡ before ++ all_forwarded p file c n
all_forwarded_are p file before c zero = sym (append-nil before)
all_forwarded_are p file before c (suc n) =
    ap (λ ys. with_all_forwarded p file ys (suc c) n) (forwarded_are file c before (constructions p c))
    ∙ (all_forwarded_are p file (before ++ map (forwarded file c) (constructions p c)) (suc c) n
    ∙ append_assoc before (map (forwarded file c) (constructions p c)) (all_forwarded p file (suc c) n))

implied_is : (file c : ℕ) (x : Class) (before : List MemberNode) → with_implied file c x before ≡ before ++ implied file c x
implied_is file c x before = by (list_any is_constructor x.members) (lacks_implicit file x) where
  by : (a b : Bool) → cond a before (cond b before (with_one file (Some c) k.Implied before)) ≡ before ++ cond (a || b) [] (node file (Some c) k.Implied ∷ [])
  by true b = sym (append-nil before)
  by false true = sym (append-nil before)
  by false false = refl

class_is : (p : Sources) (file c j : ℕ) (before : List MemberNode) (x : Class) → with_class p file c j before x ≡ before ++ of_class p file c j x
class_is p file c j before x =
    let own : ℕ = c + nameless (o.Class x) in
    let made : List MemberNode = all_forwarded p file c (nameless (o.Class x)) in
    let body : List MemberNode = of_body file own j 0 x.members in
    ap (λ ys. with_implied file own x (with_members file own j 0 ys x.members)) (all_forwarded_are p file before c (nameless (o.Class x)))
    ∙ (ap (with_implied file own x) (body_is file own j 0 (before ++ made) x.members)
    ∙ (implied_is file own x ((before ++ made) ++ body)
    ∙ (append_assoc (before ++ made) body (implied file own x) ∙ append_assoc before made (body ++ implied file own x))))

declaration_is : (p : Sources) (file c j : ℕ) (before : List MemberNode) (x : Declaration) → with_declaration p file c j before x ≡ before ++ of_declaration p file c j x
declaration_is p file c j before (d.Class x) = class_is p file c j before x
declaration_is p file c j before (d.Alias x) = all_forwarded_are p file before c (suc (nameless (o.Alias x)))
declaration_is p file c j before (d.Function x) = refl
declaration_is p file c j before (d.Getter x) = refl
declaration_is p file c j before (d.Setter x) = refl
declaration_is p file c j before (d.Variables at xs) = variables_are file None j None before 0 xs.items

declarations_are : (p : Sources) (file c j : ℕ) (before : List MemberNode) (xs : List Declaration) → with_declarations p file c j before xs ≡ before ++ of_declarations p file c j xs
declarations_are p file c j before [] = sym (append-nil before)
declarations_are p file c j before (x ∷ xs) =
    ap (λ ys. with_declarations p file (c + classes_made x) (suc j) ys xs) (declaration_is p file c j before x)
    ∙ (declarations_are p file (c + classes_made x) (suc j) (before ++ of_declaration p file c j x) xs
    ∙ append_assoc before (of_declaration p file c j x) (of_declarations p file (c + classes_made x) (suc j) xs))

files_are : (p : Sources) (n c : ℕ) (before : List MemberNode) (xs : List SourceFile) → with_files p n c before xs ≡ before ++ of_files p n c xs
files_are p n c before [] = sym (append-nil before)
files_are p n c before (x ∷ xs) =
    ap (λ ys. with_files p (suc n) (c + all_made x.tree.declarations) ys xs) (declarations_are p n c 0 before x.tree.declarations)
    ∙ (files_are p (suc n) (c + all_made x.tree.declarations) (before ++ of_declarations p n c 0 x.tree.declarations) xs
    ∙ append_assoc before (of_declarations p n c 0 x.tree.declarations) (of_files p (suc n) (c + all_made x.tree.declarations) xs))

pub members_are : (p : Sources) (found : List MemberNode) → found ≡ with_files p 0 0 [] p.files → found ≡ members p
unfolding members
members_are p found e = e ∙ files_are p 0 0 [] p.files
