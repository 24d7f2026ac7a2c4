-- From one point of a run to a later one, whatever comes behind.
use Rattle.std.proofs.Common.{◌≡◌, ℕ, suc, ◌+◌, Bool, true, false, List, [], ◌∷◌, ◌++◌, Option, Some, None, Ok, Err, Result, refl, sym, ap, ◌∙◌, arith, append_assoc, append-nil}
use Rattle.meanings.specs.Act.{Halt, Left, fin, quit, sub, Fin, Cut, add_text, then_on, means, bind}
use Rattle.meanings.proofs.Acts.{means_sub, means_bind}
use Rattle.meanings.proofs.Conclusions.{said}
use Rattle.js_tree.specs.declared.tree.JsStmt.{JsStmt}
use Rattle.js_store.specs.declared.value.Value.{Value}
use Rattle.js_meaning.specs.declared.state.Realm.{Realm}
use Rattle.js_meaning.specs.declared.state.Spot.{Spot}
use Rattle.js_meaning.specs.declared.state.Around.{Around}
use Rattle.js_meaning.specs.declared.state.Callee.{Callee}
use Rattle.js_meaning.specs.declared.state.Leave.{Leave as Leaving}
use Rattle.js_meaning.specs.Machine.{Comp, Normal, Gives, Leaves, Node, Statement, Call, Texts, Ending, A, with_value, with_normal, caught}
use Rattle.js_meaning.specs.Steps.{Acts}
use Rattle.js_meaning.specs.Prog.{Prog, ◌>>=◌, pure, halt, leave, look, change, attempt, perform, call}
use Rattle.js_meaning.specs.Statements.{statement}
use Rattle.js_meaning.specs.Calls.{called, prints}
use Rattle.js_meaning.specs.Meaning.{Js, view}

-- Given some steps more, a part at one state comes to what another part at a later state comes to, behind these texts.
pub record Leads {T : Type 0} (p : Prog T) (c : Realm) (q : Prog T) (d : Realm) (texts : Texts) : Type 0 where
  pub cost : ℕ
  pub goes : (k : Acts T) (n : ℕ) (o : Texts) → means Js (p.acts c k) (cost + n) o ≡ means Js (q.acts d k) n (o ++ texts)

-- a part that gives a value, and the state behind it
abbrev pub Comes : {T : Type 0} → Prog T → Realm → T → Realm → Texts → Type 0
Comes p c a d texts = Leads p c (pure a) d texts

-- how a part is over
abbrev pub How : Type 0
How = ℕ → Texts → Ending

abbrev pub cut : Halt → How
cut why n o = Cut why o

abbrev pub left_by : Leaving → Realm → How
left_by l d n o = Fin (Leaves l) d n o

-- a part that is over before it gives a value, behind these texts
pub record Ends {T : Type 0} (p : Prog T) (c : Realm) (how : How) (texts : Texts) : Type 0 where
  pub cost : ℕ
  pub goes : (k : Acts T) (n : ℕ) (o : Texts) → means Js (p.acts c k) (cost + n) o ≡ how n (o ++ texts)

-- ---- nothing happens

pub same_acts : {T : Type 0} (p q : Prog T) (c d : Realm) → ((k : Acts T) → p.acts c k ≡ q.acts d k) → Leads p c q d []
same_acts p q c d h = record {
  cost = 0;
  goes = λ k n o. let z : 0 + n ≡ n = omega arith in (λ i. means Js (h k i) (z i) (sym (append-nil o) i));
}

pub stays : {T : Type 0} (p : Prog T) (c : Realm) → Leads p c p c []
stays p c = same_acts p p c c (λ k. refl)

pub same_part : {T : Type 0} (p q : Prog T) (c : Realm) → p ≡ q → Leads p c q c []
same_part p q c e = same_acts p q c c (λ k i. (e i).acts c k)

-- ---- one after the other

pub leads_on : {T : Type 0} {p q r : Prog T} {c d e : Realm} {texts more : Texts} → Leads p c q d texts → Leads q d r e more → Leads p c r e (texts ++ more)
leads_on {p = p} {q = q} {r = r} {c = c} {d = d} {e = e} {texts = texts} {more = more} h g = record {
  cost = h.cost + g.cost;
  goes = λ k n o.
      let z : h.cost + g.cost + n ≡ h.cost + (g.cost + n) = omega arith in
      ap (λ m. means Js (p.acts c k) m o) z ∙ h.goes k (g.cost + n) o ∙ g.goes k n (o ++ texts)
      ∙ ap (means Js (r.acts e k) n) (append_assoc o texts more);
}

pub leads_over : {T : Type 0} {p q : Prog T} {c d : Realm} {how : How} {texts more : Texts} → Leads p c q d texts → Ends q d how more → Ends p c how (texts ++ more)
leads_over {p = p} {q = q} {c = c} {d = d} {how = how} {texts = texts} {more = more} h g = record {
  cost = h.cost + g.cost;
  goes = λ k n o.
      let z : h.cost + g.cost + n ≡ h.cost + (g.cost + n) = omega arith in
      ap (λ m. means Js (p.acts c k) m o) z ∙ h.goes k (g.cost + n) o ∙ g.goes k n (o ++ texts)
      ∙ ap (how n) (append_assoc o texts more);
}

-- what stands behind it goes on from there
pub before : {T U : Type 0} {p q : Prog T} {c d : Realm} {texts : Texts} (f : T → Prog U) → Leads p c q d texts → Leads (p >>= f) c (q >>= f) d texts
before f h = record { cost = h.cost; goes = λ k. h.goes (λ a c. (f a).acts c k) }

pub over_before : {T U : Type 0} {p : Prog T} {c : Realm} {how : How} {texts : Texts} (f : T → Prog U) → Ends p c how texts → Ends (p >>= f) c how texts
over_before f h = record { cost = h.cost; goes = λ k. h.goes (λ a c. (f a).acts c k) }

-- a part that gives a value, and then what stands behind it
pub then_leads : {T U : Type 0} {p : Prog T} (f : T → Prog U) {a : T} {q : Prog U} {c d e : Realm} {texts more : Texts} → Comes p c a d texts → Leads (f a) d q e more → Leads (p >>= f) c q e (texts ++ more)
then_leads {p = p} f {a = a} {q = q} {c = c} {d = d} {e = e} h g = leads_on {p = p >>= f} {q = pure a >>= f} {r = q} {c = c} {d = d} {e = e} (before f h) (record { cost = g.cost; goes = g.goes })

pub then_over : {T U : Type 0} {p : Prog T} (f : T → Prog U) {a : T} {c d : Realm} {how : How} {texts more : Texts} → Comes p c a d texts → Ends (f a) d how more → Ends (p >>= f) c how (texts ++ more)
then_over {p = p} f {a = a} {c = c} {d = d} h g = leads_over {p = p >>= f} {q = pure a >>= f} {c = c} {d = d} (before f h) (record { cost = g.cost; goes = g.goes })

-- where what stands behind only gives a value
pub then_gives : {T U : Type 0} {p : Prog T} (f : T → Prog U) {a : T} {b : U} {c d : Realm} {texts : Texts} → Comes p c a d texts → ((k : Acts U) → (f a).acts d k ≡ k b d) → Comes (p >>= f) c b d texts
then_gives f {d = d} {texts = texts} h same = record { cost = h.cost; goes = λ k n o. h.goes (λ a c. (f a).acts c k) n o ∙ ap (λ a. means Js a n (o ++ texts)) (same k) }

-- ---- parts that take no step

pub looks : {T : Type 0} (f : Realm → T) (c : Realm) → Comes (look f) c (f c) c []
looks f c = same_acts (look f) (pure (f c)) c c (λ k. refl)

pub changes : {T : Type 0} (f : Realm → T × Realm) (c : Realm) → Comes (change f) c (f c).0 (f c).1 []
changes f c = same_acts (change f) (pure (f c).0) c (f c).1 (λ k. refl)

pub halts : {T : Type 0} (why : Halt) (c : Realm) → Ends (halt {T = T} why) c (cut why) []
halts why c = record { cost = 0; goes = λ k n o. ap (Cut why) (sym (append-nil o)) }

pub leaves : {T : Type 0} (l : Leaving) (c : Realm) → Ends (leave {T = T} l) c (left_by l c) []
leaves l c = record { cost = 0; goes = λ k n o. let z : 0 + n ≡ n = omega arith in (λ i. Fin (Leaves l) c (z i) (sym (append-nil o) i)) }

-- ---- what begins as a step

add_said : (o : Texts) (t : Option (List ℕ)) → add_text o t ≡ o ++ said t
add_said o None = sym (append-nil o)
add_said o (Some t) = refl

-- a node, from what its acts come to
begins : (x : Node) (c : Realm) (k : Comp → Realm → A) (cost n : ℕ) (o : Texts) → means Js (sub x c k) (suc cost + n) o ≡ then_on (means Js (view x c) (cost + n) (o ++ said (Js.says x c))) (λ r d m o'. means Js (k r d) m o')
begins x c k cost n o =
    let z : suc cost + n ≡ suc (cost + n) = omega arith in
    ap (λ m. means Js (sub x c k) m o) z ∙ means_sub Js x c k (cost + n) o
    ∙ ap (λ o. then_on (means Js (view x c) (cost + n) o) (λ r d m o'. means Js (k r d) m o')) (add_said o (Js.says x c))

-- a statement
pub performs : {around : Around} {labels : List (List ℕ)} {s : JsStmt} {c d : Realm} {texts : Texts} → Comes (statement around labels s) c tt d texts → Comes (perform around labels s) c tt d texts
performs {around} {labels} {s} {c} {d} {texts} h = record {
  cost = suc h.cost;
  goes = λ k n o.
      begins (Statement around labels s) c (λ r d. with_normal r d k) h.cost n o
      ∙ ap (λ o. then_on (means Js (view (Statement around labels s) c) (h.cost + n) o) (λ r d m o'. means Js (with_normal r d k) m o')) (append-nil o)
      ∙ ap (λ p. then_on p (λ r d m o'. means Js (with_normal r d k) m o')) (h.goes (λ _ d. fin Normal d) n o);
}

pub performs_over : {around : Around} {labels : List (List ℕ)} {s : JsStmt} {c : Realm} {why : Halt} {texts : Texts} → Ends (statement around labels s) c (cut why) texts → Ends (perform around labels s) c (cut why) texts
performs_over {around} {labels} {s} {c} {why} {texts} h = record {
  cost = suc h.cost;
  goes = λ k n o.
      begins (Statement around labels s) c (λ r d. with_normal r d k) h.cost n o
      ∙ ap (λ o. then_on (means Js (view (Statement around labels s) c) (h.cost + n) o) (λ r d m o'. means Js (with_normal r d k) m o')) (append-nil o)
      ∙ ap (λ p. then_on p (λ r d m o'. means Js (with_normal r d k) m o')) (h.goes (λ _ d. fin Normal d) n o);
}

pub performs_left : {around : Around} {labels : List (List ℕ)} {s : JsStmt} {c d : Realm} {l : Leaving} {texts : Texts} → Ends (statement around labels s) c (left_by l d) texts → Ends (perform around labels s) c (left_by l d) texts
performs_left {around} {labels} {s} {c} {d} {l} {texts} h = record {
  cost = suc h.cost;
  goes = λ k n o.
      begins (Statement around labels s) c (λ r d. with_normal r d k) h.cost n o
      ∙ ap (λ o. then_on (means Js (view (Statement around labels s) c) (h.cost + n) o) (λ r d m o'. means Js (with_normal r d k) m o')) (append-nil o)
      ∙ ap (λ p. then_on p (λ r d m o'. means Js (with_normal r d k) m o')) (h.goes (λ _ d. fin Normal d) n o);
}

-- a call
pub calls : {spot : Spot} {f : Callee} {vs : List Value} {v : Value} {c d : Realm} {texts : Texts} → Comes (called spot f vs) c v d texts → Comes (call spot f vs) c v d (said (prints f vs) ++ texts)
calls {spot} {f} {vs} {v} {c} {d} {texts} h = record {
  cost = suc h.cost;
  goes = λ k n o.
      begins (Call spot f vs) c (λ r d. with_value r d k) h.cost n o
      ∙ ap (λ p. then_on p (λ r d m o'. means Js (with_value r d k) m o')) (h.goes (λ v d. fin (Gives v) d) n (o ++ said (prints f vs)))
      ∙ ap (means Js (k v d) n) (append_assoc o (said (prints f vs)) texts);
}

pub calls_over : {spot : Spot} {f : Callee} {vs : List Value} {c : Realm} {why : Halt} {texts : Texts} → Ends (called spot f vs) c (cut why) texts → Ends (call spot f vs) c (cut why) (said (prints f vs) ++ texts)
calls_over {spot} {f} {vs} {c} {why} {texts} h = record {
  cost = suc h.cost;
  goes = λ k n o.
      begins (Call spot f vs) c (λ r d. with_value r d k) h.cost n o
      ∙ ap (λ p. then_on p (λ r d m o'. means Js (with_value r d k) m o')) (h.goes (λ v d. fin (Gives v) d) n (o ++ said (prints f vs)))
      ∙ ap (Cut why) (append_assoc o (said (prints f vs)) texts);
}

-- ---- what is caught

tried : (p : Prog (Unit {0})) (c : Realm) (k : Acts (Result (Unit {0}) Leaving)) (n : ℕ) (o : Texts) → means Js ((attempt p).acts c k) n o ≡ then_on (means Js (p.acts c (λ _ d. fin Normal d)) n o) (λ r d m o'. means Js (caught r d k) m o')
tried p c k n o = means_bind Js (p.acts c (λ _ d. fin Normal d)) (λ r d. caught r d k) n o

module _ {p : Prog (Unit {0})} {c d : Realm} {texts : Texts} where
  pub attempts : Comes p c tt d texts → Comes (attempt p) c (Ok tt) d texts
  attempts h = record { cost = h.cost; goes = λ k n o. tried p c k (h.cost + n) o ∙ ap (λ p. then_on p (λ r d m o'. means Js (caught r d k) m o')) (h.goes (λ _ d. fin Normal d) n o) }

  pub catches : {l : Leaving} → Ends p c (left_by l d) texts → Comes (attempt p) c (Err l) d texts
  catches h = record { cost = h.cost; goes = λ k n o. tried p c k (h.cost + n) o ∙ ap (λ p. then_on p (λ r d m o'. means Js (caught r d k) m o')) (h.goes (λ _ d. fin Normal d) n o) }

pub attempts_over : {p : Prog (Unit {0})} {c : Realm} {texts : Texts} {why : Halt} → Ends p c (cut why) texts → Ends (attempt p) c (cut why) texts
attempts_over {p} {c} h = record { cost = h.cost; goes = λ k n o. tried p c k (h.cost + n) o ∙ ap (λ p. then_on p (λ r d m o'. means Js (caught r d k) m o')) (h.goes (λ _ d. fin Normal d) n o) }
