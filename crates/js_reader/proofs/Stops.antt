-- Items of a file, one after another, and where they stop.
use Rattle.std.proofs.Common.{◌≡◌, ℕ, ◌<◌, true, List, [], ◌∷◌, ◌++◌, length, Result, Ok, Err, refl, sym, ap, ◌∙◌, subst, append_assoc, arith}
use Rattle.std.proofs.lemmas.List.{length-append}
use Rattle.js_tree.specs.declared.tree.JsItem.{JsItem}
use Rattle.js_tree.specs.Tokens.{Tokens}
use Rattle.js_tree.specs.Grammar as g
use Rattle.js_tree.specs.Grammar.{word, quoted, sign, start, next_is, Names, is_name, is_among, declared, IsExpr, IsPrimary, AreSelectors, IsStmt, AreItems}
use Rattle.js_reader.specs.Taking.{Found, Parser, ◌>>=◌, place, is_end}
use Rattle.js_reader.proofs.Firsts.{stmt_shrinks}
use Rattle.js_reader.proofs.Pieces.{Pieces, both, put, put_list, put_head, head_of}
use Rattle.js_reader.proofs.Onward.{Answer, took, stopped}
use Rattle.js_reader.proofs.StmtForms.{ItemOf}

-- The tokens up to this place begin some items, and others answer the same before all that go on with the token there.
pub record Stops (size : ℕ) (names : Names) (q : Tokens → Result (List JsItem) ℕ) (ts : Tokens) (at : ℕ) : Type 0 where
  pub front : Pieces
  pub more : Pieces
  pub items : List JsItem
  pub derived : AreItems names (put front (put more [])) items
  pub rest : Tokens
  pub is : ts ≡ put front rest
  pub stands : at ≡ place size rest
  pub again : (late : Tokens) → head_of late ≡ head_of rest → q (put front late) ≡ Err at

pub same_end : (late rest : Tokens) → head_of late ≡ head_of rest → is_end late ≡ is_end rest
same_end [] [] e = refl
same_end [] (c ∷ rest) e = absurd cc
same_end (b ∷ late) [] e = absurd cc
same_end (b ∷ late) (c ∷ rest) e = refl

some_items : {names : Names} {a : JsItem} {more : List JsItem} {ts : Tokens} → AreItems names ts (a ∷ more) → 0 < length ts
some_items (g.function_item n f d k) = omega arith
some_items (g.var n f d k) = omega arith
some_items (g.statement d k) = omega (arith, stmt_shrinks d)

pub nothing_left : (ts : Tokens) → is_end ts ≡ true → ts ≡ []
nothing_left [] h = refl
nothing_left (c ∷ ts) h = absurd cc

-- fewer tokens are left behind an item
fewer : {names : Names} {x : JsItem × Names} {ts : Tokens} (v : Pieces) (rest : Tokens) → ItemOf names v x → ts ≡ put v rest → length rest < length ts
fewer v rest h is = omega (arith, some_items (h [] [] g.no_items), ap length is, ap length (put_list v rest), length-append (put v []) rest)

-- one item, and the others
pub read_by : (size : ℕ) (names : Names) (ts : Tokens) (found r : List JsItem) (q : Parser (JsItem × Names)) (f : (JsItem × Names) × Tokens → Result (List JsItem) ℕ) {o : Found (JsItem × Names)} → Answer size (ItemOf names) q ts o
    → ((x : JsItem × Names) (rest : Tokens) → f (x, rest) ≡ Ok r → length rest < length ts → (xs : List JsItem) × ((found ++ x.0 ∷ []) ++ xs ≡ r) × AreItems x.1 rest xs) → (o >>= f) ≡ Ok r
    → (xs : List JsItem) × (found ++ xs ≡ r) × AreItems names ts xs
read_by size names ts found r q f (took v x rest h is again) others e =
    let n = others x rest e (fewer v rest h is) in (x.0 ∷ n.0, sym (append_assoc found (x.0 ∷ []) n.0) ∙ n.1, subst (λ (us : Tokens). AreItems names us (x.0 ∷ n.0)) (sym is) (h rest n.0 n.2))
read_by size names ts found r q f (stopped v x front more rest h is splits again) others e = absurd cc

-- one item, and where the others stop
pub stop_by : (size : ℕ) (names : Names) (ts : Tokens) (at : ℕ) (q : Parser (JsItem × Names)) (f d : (JsItem × Names) × Tokens → Result (List JsItem) ℕ) {o : Found (JsItem × Names)} → Answer size (ItemOf names) q ts o
    → ((x : JsItem × Names) (rest : Tokens) → f (x, rest) ≡ Err at → length rest < length ts → Stops size x.1 (λ us. d (x, us)) rest at) → (o >>= f) ≡ Err at
    → (r : Tokens → Result (List JsItem) ℕ) → ((us : Tokens) → head_of us ≡ head_of ts → r us ≡ (q us >>= d)) → Stops size names r ts at
stop_by size names ts at q f d (took v x rest h is again) others e r same =
    let n = others x rest e (fewer v rest h is) in
    record {
      front = both v n.front;
      more = n.more;
      items = x.0 ∷ n.items;
      derived = h (put n.front (put n.more [])) n.items n.derived;
      rest = n.rest;
      is = is ∙ ap (put v) n.is;
      stands = n.stands;
      again = λ late k.
          let here : head_of (put n.front late) ≡ head_of rest = put_head n.front late n.rest k ∙ ap head_of (sym n.is) in
          same (put v (put n.front late)) (put_head v (put n.front late) rest here ∙ ap head_of (sym is)) ∙ (ap (λ (z : Found (JsItem × Names)). z >>= d) (again (put n.front late) here) ∙ n.again late k);
    }
stop_by size names ts at q f d (stopped v x front more rest h is splits again) others e r same =
    let there : place size rest ≡ at = cc in
    record {
      front = front;
      more = more;
      items = x.0 ∷ [];
      derived = subst (λ (us : Tokens). AreItems names us (x.0 ∷ [])) (splits []) (h [] [] g.no_items);
      rest = rest;
      is = is;
      stands = sym there;
      again = λ late k. same (put front late) (put_head front late rest k ∙ ap head_of (sym is)) ∙ (ap (λ (z : Found (JsItem × Names)). z >>= d) (again late k) ∙ ap (λ (z : ℕ). Err z) there);
    }
