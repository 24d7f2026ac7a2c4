-- What each parser's answer says: the tokens that it took can be gone on with, and it answers the same before all that
-- go on with the same one.
use Rattle.std.proofs.Common.{◌≡◌, ◌⊎◌, ℕ, zero, suc, ◌<◌, ◌≤◌, Bool, true, false, cond, List, [], ◌∷◌, ◌++◌, length, Option, Some, None, Result, Ok, Err, refl, sym, ap, ◌∙◌, subst, inl, inr, arith}
use Rattle.std.specs.Prelude.{◌||◌, codes}
use Rattle.std.specs.Str.{bytes_eq}
use Rattle.std.proofs.lemmas.List.{append-nil}
use Rattle.js_tree.specs.declared.tree.JsExpr.{JsExpr}
use Rattle.js_tree.specs.declared.tree.JsExpr.TheVariants as e
use Rattle.js_tree.specs.declared.tree.JsHead.{JsHead}
use Rattle.js_tree.specs.declared.tree.JsHead.TheVariants as H
use Rattle.js_tree.specs.declared.tree.JsSelector.{JsSelector}
use Rattle.js_tree.specs.declared.tree.JsSelector.TheVariants as L
use Rattle.js_tree.specs.declared.tree.JsPrimary.{JsPrimary}
use Rattle.js_tree.specs.declared.tree.JsEntry.{JsEntry}
use Rattle.js_tree.specs.declared.tree.JsStmt.{JsStmt}
use Rattle.js_tree.specs.declared.tree.JsStmt.TheVariants as s
use Rattle.js_tree.specs.declared.tree.JsItem.{JsItem}
use Rattle.js_tree.specs.declared.tree.JsItem.TheVariants as i
use Rattle.js_tree.specs.declared.words.JsOperator.{JsOperator}
use Rattle.js_tree.specs.Words.{operator_text}
use Rattle.js_tree.specs.Tokens.{Bytes, Place, Token, Tokens}
use Rattle.js_tree.specs.Grammar as g
use Rattle.js_tree.specs.Grammar.{word, quoted, sign, start, next_is, Names, is_name, is_among, declared, IsExpr, IsPrimary, AreSelectors, IsStmt, AreItems}
use Rattle.js_reader.specs.declared.targets.Target.{Target}
use Rattle.js_reader.specs.declared.targets.Target.TheVariants as t
use Rattle.js_reader.specs.Taking.{Found, Parser, ◌>>=◌, place, is_end, sign_of, word_of, after_sign, after_word, sign_is, word_is, operator_of, expect, member_at}
use Rattle.js_reader.specs.Parsing as p
use Rattle.js_reader.specs.Parsing.{literal_of, selects}
use Rattle.js_reader.proofs.Fronted.{bind_ok, ok_is, chosen, next_is_sign, operator_next, operator_after}
use Rattle.js_reader.proofs.Firsts.{expr_shrinks, arguments_shrink, selectors_shrink, primary_shrinks, stmt_shrinks}
use Rattle.js_reader.proofs.Pieces.{Pieces, nothing, token, put, head_of}
use Rattle.js_reader.proofs.Onward as o
use Rattle.js_reader.proofs.Onward.{nowhere, Form, Least, Gives, gives, Led, led, Seq, seq, Answer, took, stopped, Reads, Taken, FromHere, OnLine, same_sign, same_word}
use Rattle.js_reader.proofs.Singles.{name_of, least_fresh, least_string, name_reads, fresh_reads, number_reads, member_reads, string_reads}
use Rattle.js_reader.proofs.Forms as f
use Rattle.js_reader.proofs.Forms.{NoCall, ExprOf, StmtOf, NamesFrom, NamesAfter, ParametersOf, ParametersAfter, ExprsFrom, ListedOf, ArgumentsOf, HeadOf, ArrayAfter, is_member, SelectorOf, MemberAfter, SelectorsFrom, SelectorsAfter, PrimaryOf, OperatedOf, EntryOf, EntriesFrom, ObjectAfter, NamedStmtOf, StmtsFrom, BlockOf, FunctionOf}
use Rattle.js_reader.proofs.StmtForms as w
use Rattle.js_reader.proofs.StmtForms.{StartOf, SimpleAfter, ConditionOf, IfAfter, ValueOf, TryAfter, ItemOf}
use Rattle.js_reader.proofs.Leasts.{least_expr, least_arguments, least_block, least_function, LeaveOf, least_leave, least_start, least_value}
use Rattle.js_reader.proofs.Stops.{Stops, same_end, read_by, stop_by, nothing_left}

-- ---- names and parameters

names_reads : (size n n' : ℕ) (before : Names) (found : List Bytes) (ts : Tokens) → length ts < n → n ≤ n' → Reads size (NamesFrom before found) (p.names_from size n before found) (p.names_from size n' before found) ts
unfolding p.names_from after_sign
names_reads size zero n' before found ts k m = absurd (omega arith)
names_reads size (suc n) zero before found ts k m = absurd (omega arith)
names_reads size (suc n) (suc n') before found ts k m =
    o.map size (f.names_join before found) (o.bind size _ _ (fresh_reads size before ts) (λ x. o.least_map (f.names_last before found x) (o.least_give _)) (λ x rest c. o.by_sign size (codes ",") (λ b. o.map size (f.names_more before found x) (o.sign_taken size 44 [] b (λ at late j. names_reads size n n' (x ∷ before) (found ++ x ∷ []) late (omega (arith, c.less)) (omega arith)))) (λ b. o.map size (f.names_last before found x) (o.give size (found ++ x ∷ [], x ∷ before) rest))))

parameters_reads : (size n n' : ℕ) (ts : Tokens) → length ts < n → n ≤ n' → Reads size ParametersOf (p.parameters size n) (p.parameters size n') ts
unfolding p.parameters after_sign
parameters_reads size n n' ts k m =
    o.map size f.parameters_join (o.sign_then size 40 [] (o.least_map f.parameters_none (o.least_led (o.least_give _))) (λ at rest j. o.by_sign size (codes ")") (λ b. o.map size f.parameters_none (o.sign_taken size 41 [] b (λ c late i. o.give size ([], []) late))) (λ b. o.map size f.parameters_some (o.bind size _ _ (names_reads size n n' [] [] rest (omega arith) m) (λ xs. o.least_led (o.least_give _)) (λ xs late c. o.sign_then size 41 [] (o.least_give _) (λ d end i. o.give size xs end))))))

-- ---- lemmas on what was read

-- some selectors take a token at least
one_selector : {x : JsSelector} {ts rest : Tokens} → AreSelectors ts (x ∷ []) rest → length rest < length ts
one_selector (g.index d k) = omega (arith, expr_shrinks d, selectors_shrink k)
one_selector (g.call d k) = omega (arith, arguments_shrink d, selectors_shrink k)
one_selector (g.member n k) = omega (arith, selectors_shrink k)
one_selector (g.method d k) = omega (arith, arguments_shrink d, selectors_shrink k)

third : (a b c : Bool) → a ≡ false → b ≡ false → (a || (b || c)) ≡ true → c ≡ true
third true b c i j k = absurd cc
third false true c i j k = absurd cc
third false false c i j k = k

same_next : (text : Bytes) (late rest : Tokens) → head_of late ≡ head_of rest → next_is text late ≡ next_is text rest
same_next text [] [] i = refl
same_next text [] (c ∷ rest) i = absurd cc
same_next text (b ∷ late) [] i = absurd cc
same_next text (b ∷ late) (c ∷ rest) i = let same : b ≡ c = cc in ap (λ (x : Token). next_is text (x ∷ [])) same

-- where the tokens begin that begin as these
begun : (size : ℕ) (late rest first : Tokens) → head_of late ≡ head_of rest → head_of first ≡ head_of rest → 0 < length first → start late ≡ place size rest
begun size late [] [] i j k = absurd (omega arith)
begun size late [] (b ∷ first) i j k = absurd cc
begun size [] (c ∷ rest) first i j k = absurd cc
begun size (b ∷ late) (c ∷ rest) first i j k = let same : b ≡ c = cc in ap (λ (x : Token). x.place.from) same

from_here : (size : ℕ) (ts : Tokens) (v : Pieces) (a : JsPrimary) → (PrimaryOf v a × FromHere ts v) ⊎ StartOf (place size ts) v a → StartOf (place size ts) v a
from_here size ts v a (inl (d, inl n)) = absurd (omega (arith, primary_shrinks (d [] refl), ap length (n [])))
from_here size ts v a (inl (d, inr h)) = (d, λ tail. begun size (put v tail) ts (put v []) (h tail) (h []) (omega (arith, primary_shrinks (d [] refl))))
from_here size ts v a (inr d) = d

-- an expression begins with a token
value_some : (make : JsExpr → JsStmt) (v : Pieces) (x : JsStmt) → ValueOf make v x → (tail : Tokens) → (c : Token) × (late : Tokens) × (put v tail ≡ c ∷ late)
value_some make v x (seq {v = a} d (led c gives)) tail = by (put a (sign (codes ";") c ∷ tail)) (expr_shrinks (d (sign (codes ";") c ∷ tail) refl)) where
  by : (us : Tokens) → length (sign (codes ";") c ∷ tail) < length us → (b : Token) × (late : Tokens) × (us ≡ b ∷ late)
  by [] k = absurd (omega arith)
  by (b ∷ late) k = (b, late, refl)

leave_some : (at : Place) (v : Pieces) (x : JsStmt) → LeaveOf at v x → (tail : Tokens) → (c : Token) × (late : Tokens) × (put v tail ≡ c ∷ late)
leave_some at v x (seq (name_of q n) (led c gives)) tail = (_, _, refl)

-- what follows the primary expression of a statement at this place
abbrev simple_after : ℕ → ℕ → Parser JsExpr → Parser JsStmt → ℕ → JsPrimary × Tokens → Found JsStmt
simple_after size turns expr stmt at a =
    cond (sign_is (codes "=") a.1) (p.assigned size turns expr stmt at (p.target_of a.0) a.1) (cond (sign_is (codes ":") a.1) (p.labelled size turns expr stmt at (p.target_of a.0) a.1) (p.performed size turns expr stmt at a.0 a.1))

module _ (size k turns turns' : ℕ) (expr expr' : Parser JsExpr) (stmt stmt' : Parser JsStmt) (room : turns ≤ suc k) (enough : turns ≤ turns')
    (expr_reads : (ts : Tokens) → length ts < k → Reads size ExprOf expr expr' ts)
    (stmt_reads : (ts : Tokens) → length ts < k → Reads size StmtOf stmt stmt' ts) where
  -- ---- lists

  exprs_reads : (n n' : ℕ) (found : List JsExpr) (ts : Tokens) → length ts < n → n ≤ n' → length ts < k → Reads size (ExprsFrom found) (p.exprs_from size turns expr stmt n found) (p.exprs_from size turns' expr' stmt' n' found) ts
  unfolding p.exprs_from after_sign
  exprs_reads zero n' found ts l m c = absurd (omega arith)
  exprs_reads (suc n) zero found ts l m c = absurd (omega arith)
  exprs_reads (suc n) (suc n') found ts l m c =
      o.map size (f.exprs_join found) (o.bind size _ _ (expr_reads ts c) (λ x. o.least_map (f.exprs_last found x) (o.least_give _))
      (λ x rest t. o.by_sign size (codes ",") (λ b. o.map size (f.exprs_more found x) (o.sign_taken size 44 [] b (λ at late i. exprs_reads n n' (found ++ x ∷ []) late (omega (arith, t.less)) (omega arith) (omega (arith, t.less)))))
      (λ b. o.map size (f.exprs_last found x) (o.give size (found ++ x ∷ []) rest))))

  listed_reads : (close : ℕ) (ts : Tokens) → bytes_eq (codes "(") (close ∷ []) ≡ false → suc (length ts) < turns → Reads size (ListedOf close) (p.listed size turns expr stmt (close ∷ [])) (p.listed size turns' expr' stmt' (close ∷ [])) ts
  unfolding p.listed after_sign
  listed_reads close ts c l =
      o.by_sign size (close ∷ []) (λ b. o.map size (f.listed_none close) (o.sign_taken size close [] b (λ at rest i. o.give size [] rest)))
      (λ b. o.map size (f.listed_some close c) (o.bind size _ _ (exprs_reads turns turns' [] ts (omega arith) enough (omega arith)) (λ xs. o.least_led (o.least_give _))
      (λ xs rest t. o.sign_then size close [] (o.least_give _) (λ at late i. o.give size xs late))))

  arguments_reads : (ts : Tokens) → length ts < turns → Reads size ArgumentsOf (p.arguments size turns expr stmt) (p.arguments size turns' expr' stmt') ts
  unfolding p.arguments
  arguments_reads ts l = o.map size f.arguments_join (o.sign_then size 40 [] (token (sign (codes ")") nowhere) nothing, [], λ tail. g.no_items) (λ at rest i. listed_reads 41 rest refl (omega arith)))

  -- ---- heads

  negative_reads : (ts : Tokens) → sign_is (codes "-") ts ≡ true → Reads size HeadOf (p.negative size turns expr stmt) (p.negative size turns' expr' stmt') ts
  unfolding p.negative after_sign
  negative_reads ts b = o.map size f.negative_join (o.sign_taken size 45 [] b (λ at rest i. o.bind size _ _ (number_reads size rest) (λ n. o.least_give _) (λ n late t. o.give size (H.Negative n) late)))

  digits_reads : (ts : Tokens) → Reads size HeadOf (p.digits size turns expr stmt) (p.digits size turns' expr' stmt') ts
  unfolding p.digits
  digits_reads ts = o.map size f.digits_join (o.bind size _ _ (number_reads size ts) (λ n. o.least_give _) (λ n late t. o.give size (H.Digits n) late))

  string_head_reads : (ts : Tokens) → Reads size HeadOf (p.string size turns expr stmt) (p.string size turns' expr' stmt') ts
  unfolding p.string
  string_head_reads ts = o.map size f.string_join (o.bind size _ _ (string_reads size ts) (λ n. o.least_give _) (λ n late t. o.give size (H.Str n) late))

  named_reads : (ts : Tokens) → Reads size HeadOf (p.named size turns expr stmt) (p.named size turns' expr' stmt') ts
  unfolding p.named
  named_reads ts = o.map size f.named_join (o.bind size _ _ (name_reads size ts) (λ n. o.least_give _) (λ n late t. o.give size (H.Name n) late))

  string_of_reads : (ts : Tokens) → length ts < turns → word_is (codes "String") ts ≡ true → Reads size HeadOf (p.string_of size turns expr stmt) (p.string_of size turns' expr' stmt') ts
  unfolding p.string_of after_word
  string_of_reads ts l b = o.map size f.string_of_join (o.word_taken size 83 (codes "tring") b (λ at rest i. o.bind size _ _ (arguments_reads rest (omega arith)) (λ xs. o.least_give _) (λ xs late t. o.give size (H.StringOf xs) late)))

  of_array_reads : (ts : Tokens) → length ts < turns → word_is (codes "Array") ts ≡ true → Reads size HeadOf (p.of_array size turns expr stmt) (p.of_array size turns' expr' stmt') ts
  unfolding p.of_array after_word
  of_array_reads ts l b =
      o.map size f.of_array_join (o.word_taken size 65 (codes "rray") b (λ at rest i. o.sign_then size 46 [] (o.least_map f.array_from_join (o.least_led (o.least_seq least_arguments (λ xs. o.least_give _))))
      (λ c late j. o.by_word size (codes "isArray") (λ d. o.map size f.is_array_join (o.word_taken size 105 (codes "sArray") d (λ u end h. o.bind size _ _ (arguments_reads end (omega arith)) (λ xs. o.least_give _) (λ xs last t. o.give size (H.IsArray xs) last))))
      (λ d. o.map size f.array_from_join (o.word_then size 102 (codes "rom") (o.least_seq least_arguments (λ xs. o.least_give _)) (λ u end h. o.bind size _ _ (arguments_reads end (omega arith)) (λ xs. o.least_give _) (λ xs last t. o.give size (H.ArrayFrom xs) last)))))))

  some_is : (a b : JsHead) → (let some : JsHead → Option JsHead = Some in some a ≡ some b) → a ≡ b
  some_is a b h = cc

  literal_reads : (ts : Tokens) (a : JsHead) → literal_of (word_of ts) ≡ Some a → Reads size HeadOf (λ us. Ok (a, after_word us)) (λ us. Ok (a, after_word us)) ts
  unfolding after_word
  literal_reads ts a h = elim (chosen (word_is (codes "null") ts) _ _ (Some a) h) [
    | inl x ↦ is H.Null x.1 (o.map size f.null_join (o.word_taken size 110 (codes "ull") x.0 (λ at rest j. o.give size H.Null rest)))
    | inr x ↦ elim (chosen (word_is (codes "undefined") ts) _ _ (Some a) x.1) [
      | inl y ↦ is H.Undefined y.1 (o.map size f.undefined_join (o.word_taken size 117 (codes "ndefined") y.0 (λ at rest j. o.give size H.Undefined rest)))
      | inr y ↦ elim (chosen (word_is (codes "true") ts) _ _ (Some a) y.1) [
        | inl z ↦ is H.True z.1 (o.map size f.true_join (o.word_taken size 116 (codes "rue") z.0 (λ at rest j. o.give size H.True rest)))
        | inr z ↦ elim (chosen (word_is (codes "false") ts) _ _ (Some a) z.1) [
          | inl u ↦ is H.False u.1 (o.map size f.false_join (o.word_taken size 102 (codes "alse") u.0 (λ at rest j. o.give size H.False rest)))
          | inr u ↦ absurd (none u.1)
        ]
      ]
    ]
  ] where
    is : (b : JsHead) → (let some : JsHead → Option JsHead = Some in some b ≡ some a) → Reads size HeadOf (λ us. Ok (b, after_word us)) (λ us. Ok (b, after_word us)) ts
        → Reads size HeadOf (λ us. Ok (a, after_word us)) (λ us. Ok (a, after_word us)) ts
    is b c r = subst (λ (d : JsHead). Reads size HeadOf (λ us. Ok (d, after_word us)) (λ us. Ok (d, after_word us)) ts) (some_is b a c) r

    none : (let no : Option JsHead = None in let some : JsHead → Option JsHead = Some in no ≡ some a) → ⊥
    none c = absurd cc

  worded_reads : (c : Option JsHead) (x : Bytes) (ts : Tokens) → length ts < turns → word_of ts ≡ x → literal_of x ≡ c → Reads size HeadOf (p.worded size turns expr stmt c x) (p.worded size turns' expr' stmt' c x) ts
  worded_reads (Some a) x ts l i j = literal_reads ts a (ap literal_of i ∙ j)
  worded_reads None x ts l i j =
      o.choose size (λ us. bytes_eq x (codes "String")) (λ late rest h. refl) (λ b. string_of_reads ts l (ap (λ (y : Bytes). bytes_eq y (codes "String")) i ∙ b))
      (λ b. o.choose size (λ us. bytes_eq x (codes "Array")) (λ late rest h. refl) (λ c. of_array_reads ts l (ap (λ (y : Bytes). bytes_eq y (codes "Array")) i ∙ c))
      (λ c. o.choose size (λ us. is_name x) (λ late rest h. refl) (λ d. named_reads ts) (λ d. digits_reads ts)))

  head_reads : (ts : Tokens) → length ts < turns → Reads size HeadOf (p.head size turns expr stmt) (p.head size turns' expr' stmt') ts
  unfolding p.head
  head_reads ts l =
      o.by_sign size (codes "-") (λ b. negative_reads ts b)
      (λ b. o.by_word size [] (λ c. string_head_reads ts)
      (λ c. o.along size {o = p.worded size turns expr stmt (literal_of (word_of ts)) (word_of ts)} refl (λ us h. ap (λ (x : Bytes). p.worded size turns' expr' stmt' (literal_of x) x us) (same_word us ts h)) (worded_reads (literal_of (word_of ts)) (word_of ts) ts l refl refl)))

  -- ---- selectors

  index_reads : (ts : Tokens) → length ts < turns → sign_is (codes "[") ts ≡ true → Reads size SelectorOf (p.index size turns expr stmt) (p.index size turns' expr' stmt') ts
  unfolding p.index after_sign
  index_reads ts l b =
      o.map size f.index_join (o.sign_taken size 91 [] b (λ at rest i. o.bind size _ _ (expr_reads rest (omega arith)) (λ a. o.least_led (o.least_give _)) (λ a late t. o.sign_then size 93 [] (o.least_give _) (λ c end j. o.give size (L.Index a) end))))

  call_reads : (ts : Tokens) → length ts < turns → Reads size SelectorOf (p.call size turns expr stmt) (p.call size turns' expr' stmt') ts
  unfolding p.call
  call_reads ts l = o.map size f.call_join (o.bind size _ _ (arguments_reads ts l) (λ xs. o.least_give _) (λ xs late t. o.give size (L.Call xs) late))

  member_selector_reads : (ts : Tokens) → length ts < turns → sign_is (codes ".") ts ≡ true → Reads size SelectorOf (p.member size turns expr stmt) (p.member size turns' expr' stmt') ts
  unfolding p.member after_sign
  member_selector_reads ts l b =
      o.map size f.member_join (o.sign_taken size 46 [] b (λ at rest i. o.bind size _ _ (member_reads size rest) (λ m. o.least_map (f.bare_join m) (o.least_give _))
      (λ m late t. o.by_sign size (codes "(") (λ c. o.map size (f.method_join m) (o.bind size _ _ (arguments_reads late (omega (arith, t.less))) (λ xs. o.least_give _) (λ xs end u. o.give size (L.Method m xs) end)))
      (λ c. o.map size (f.bare_join m) (o.give size (L.Member m) late)))))

  selector_reads : (ts : Tokens) → length ts < turns → selects (sign_of ts) ≡ true → Reads size SelectorOf (p.selector size turns expr stmt) (p.selector size turns' expr' stmt') ts
  unfolding p.selector
  selector_reads ts l m =
      o.by_sign size (codes "[") (λ b. index_reads ts l b)
      (λ b. o.by_sign size (codes "(") (λ c. call_reads ts l) (λ c. member_selector_reads ts l (third (sign_is (codes "[") ts) (sign_is (codes "(") ts) (sign_is (codes ".") ts) b c m)))

  -- no arguments follow a member without them
  followed : (ts : Tokens) (r : JsSelector × Tokens) → p.selector size turns expr stmt ts ≡ Ok r → is_member r.0 ≡ true → NoCall r.1
  unfolding p.selector p.index p.call p.member
  followed ts r h m = elim (chosen (sign_is (codes "[") ts) _ _ (Ok r) h) [
    | inl x ↦
        let a = bind_ok (expr (after_sign ts)) _ r x.1 in
        let c = bind_ok (expect size (codes "]") a.0.1) _ r a.2 in
        let is = ok_is (L.Index a.0.0, c.0) r c.2 in
        no (sym (ap (λ (z : JsSelector × Tokens). is_member z.0) is) ∙ f.index_no_member a.0.0)
    | inr x ↦ elim (chosen (sign_is (codes "(") ts) _ _ (Ok r) x.1) [
      | inl y ↦
          let a = bind_ok (p.arguments size turns expr stmt ts) _ r y.1 in
          let is = ok_is (L.Call a.0.0, a.0.1) r a.2 in
          no (sym (ap (λ (z : JsSelector × Tokens). is_member z.0) is) ∙ f.call_no_member a.0.0)
      | inr y ↦
          let a = bind_ok (member_at size (after_sign ts)) _ r y.1 in
          elim (chosen (sign_is (codes "(") a.0.1) _ _ (Ok r) a.2) [
            | inl z ↦
                let b = bind_ok (p.arguments size turns expr stmt a.0.1) _ r z.1 in
                let is = ok_is (L.Method a.0.0 b.0.0, b.0.1) r b.2 in
                no (sym (ap (λ (u : JsSelector × Tokens). is_member u.0) is) ∙ f.method_no_member a.0.0 b.0.0)
            | inr z ↦
                let is = ok_is (L.Member a.0.0, a.0.1) r z.1 in
                subst (λ (u : JsSelector × Tokens). NoCall u.1) is (next_is_sign 40 [] a.0.1 ∙ z.0)
          ]
    ]
  ] where
    no : is_member r.0 ≡ false → NoCall r.1
    no e = absurd (let c : true ≡ false = sym m ∙ e in cc)

  selectors_after : (found : List JsSelector) (x : JsSelector) (rest : Tokens) → (is_member x ≡ true → NoCall rest) → (v : Pieces) (r : List JsSelector)
      → (SelectorsFrom (found ++ x ∷ []) v r × FromHere rest v) ⊎ Gives (found ++ x ∷ []) v r → SelectorsAfter found x v r
  selectors_after found x rest n v r (inl (h, inl e)) = (h, λ tail b c. subst NoCall (sym (e tail)) c)
  selectors_after found x rest n v r (inl (h, inr e)) = (h, λ tail b c. same_next (codes "(") (put v tail) rest (e tail) ∙ n b)
  selectors_after found x rest n v r (inr gives) = (f.selectors_none (found ++ x ∷ []) nothing (found ++ x ∷ []) gives, λ tail b c. c)

  selectors_reads : (n n' : ℕ) (found : List JsSelector) (ts : Tokens) → length ts < n → n ≤ n' → length ts < turns → Reads size (SelectorsFrom found) (p.selectors_from size turns expr stmt n found) (p.selectors_from size turns' expr' stmt' n' found) ts
  unfolding p.selectors_from
  selectors_reads zero n' found ts k m c = absurd (omega arith)
  selectors_reads (suc n) zero found ts k m c = absurd (omega arith)
  selectors_reads (suc n) (suc n') found ts k m c =
      o.choose size (λ us. selects (sign_of us)) (λ late rest h. ap selects (same_sign late rest h))
      (λ b. o.map size (f.selectors_join found) (o.bind size _ _ (selector_reads ts c b) (λ x. o.least_map (selectors_after found x [] (λ d. refl)) (nothing, found ++ x ∷ [], inr gives))
      (λ x rest t.
      let n_call : is_member x ≡ true → NoCall rest = followed ts (x, rest) t.answers in
      let less : length rest < length ts = subst (λ (us : Tokens). length rest < length us) (sym t.is) (one_selector (t.holds rest n_call [] rest g.no_selectors)) in
      o.map size (selectors_after found x rest n_call) (o.opened size (o.least_give _) (selectors_reads n n' (found ++ x ∷ []) rest (omega (arith, less)) (omega arith) (omega (arith, less)))))))
      (λ b. o.map size (f.selectors_none found) (o.give size found ts))

  primary_reads : (ts : Tokens) → length ts < turns → Reads size PrimaryOf (p.primary size turns expr stmt) (p.primary size turns' expr' stmt') ts
  unfolding p.primary
  primary_reads ts l =
      o.map size f.primary_join (o.bind size _ _ (head_reads ts l) (λ a. o.least_seq (o.least_map (f.selectors_none []) (o.least_give _)) (λ xs. o.least_give _))
      (λ a rest t. o.bind size _ _ (selectors_reads turns turns' [] rest (omega (arith, t.less)) enough (omega (arith, t.less))) (λ xs. o.least_give _) (λ xs late u. o.give size (record { head = a; selectors = xs }) late)))

  -- ---- expressions

  operated_reads : (c : Option JsOperator) (a : JsPrimary) (ts : Tokens) → length ts < turns → operator_of (sign_of ts) ≡ c → Reads size (OperatedOf a) (p.operated size turns expr stmt c a) (p.operated size turns' expr' stmt' c a) ts
  operated_reads None a ts k i = o.map size (f.alone_join a) (o.give size (e.Primary a) ts)
  operated_reads (Some c) a ts k i =
      let n = operator_next ts c i in
      subst (λ (us : Tokens). Reads size (OperatedOf a) (p.operated size turns expr stmt (Some c) a) (p.operated size turns' expr' stmt' (Some c) a) us) (sym n.1)
      (o.map size (f.binary_join a c) (o.lead size (sign (operator_text c)) n.0
      (o.along size {o = λ us. p.primary size turns expr stmt us >>= λ b. Ok (e.Binary c a b.0, b.1)} {r = λ us. p.primary size turns' expr' stmt' us >>= λ b. Ok (e.Binary c a b.0, b.1)}
      (ap (λ (us : Tokens). p.primary size turns expr stmt us >>= λ b. Ok (e.Binary c a b.0, b.1)) (operator_after c n.0 (after_sign ts)))
      (λ us h. ap (λ (vs : Tokens). p.primary size turns' expr' stmt' vs >>= λ b. Ok (e.Binary c a b.0, b.1)) (operator_after c n.0 us))
      (o.bind size _ _ (primary_reads (after_sign ts) (omega (arith, ap length n.1))) (λ b. o.least_give _) (λ b late t. o.give size (e.Binary c a b) late)))))

  plain_reads : (ts : Tokens) → length ts < turns → Reads size ExprOf (p.plain size turns expr stmt) (p.plain size turns' expr' stmt') ts
  unfolding p.plain
  plain_reads ts k =
      o.map size f.plain_join (o.bind size _ _ (primary_reads ts k) (λ a. o.least_map (f.alone_join a) (o.least_give _))
      (λ a rest t. o.along size {o = p.operated size turns expr stmt (operator_of (sign_of rest)) a} refl (λ us h. ap (λ (x : Bytes). p.operated size turns' expr' stmt' (operator_of x) a us) (same_sign us rest h))
      (operated_reads (operator_of (sign_of rest)) a rest (omega (arith, t.less)) refl)))

  type_of_reads : (ts : Tokens) → length ts < turns → word_is (codes "typeof") ts ≡ true → Reads size ExprOf (p.type_of size turns expr stmt) (p.type_of size turns' expr' stmt') ts
  unfolding p.type_of after_word
  type_of_reads ts k b = o.map size f.type_of_join (o.word_taken size 116 (codes "ypeof") b (λ at rest i. o.bind size _ _ (primary_reads rest (omega arith)) (λ a. o.least_give _) (λ a late t. o.give size (e.TypeOf a) late)))

  new_map_reads : (ts : Tokens) → word_is (codes "new") ts ≡ true → Reads size ExprOf (p.new_map size turns expr stmt) (p.new_map size turns' expr' stmt') ts
  unfolding p.new_map after_word
  new_map_reads ts b =
      o.map size f.new_map_join (o.word_taken size 110 (codes "ew") b (λ at rest i. o.word_then size 77 (codes "ap") (o.least_led (o.least_led (o.least_give _)))
      (λ c late j. o.sign_then size 40 [] (o.least_led (o.least_give _)) (λ d end h. o.sign_then size 41 [] (o.least_give _) (λ q last u. o.give size e.NewMap last)))))

  array_reads : (ts : Tokens) → length ts < turns → sign_is (codes "[") ts ≡ true → Reads size ExprOf (p.array size turns expr stmt) (p.array size turns' expr' stmt') ts
  unfolding p.array after_sign
  array_reads ts k b = o.map size f.array_join (o.sign_taken size 91 [] b (λ at rest i. o.bind size _ _ (listed_reads 93 rest refl (omega arith)) (λ xs. o.least_give _) (λ xs late t. o.give size (e.Array xs) late)))

  entry_reads : (ts : Tokens) → length ts < turns → Reads size EntryOf (p.entry size turns expr stmt) (p.entry size turns' expr' stmt') ts
  unfolding p.entry
  entry_reads ts k =
      o.bind size _ _ (string_reads size ts) (λ us. o.least_led (o.least_seq least_expr (λ a. o.least_give _)))
      (λ us rest t. o.sign_then size 58 [] (o.least_seq least_expr (λ a. o.least_give _)) (λ c late j. o.bind size _ _ (expr_reads late (omega (arith, t.less))) (λ a. o.least_give _) (λ a end u. o.give size (record { key = us; value = a }) end)))

  entries_reads : (n n' : ℕ) (found : List JsEntry) (ts : Tokens) → length ts < n → n ≤ n' → length ts < turns → Reads size (EntriesFrom found) (p.entries_from size turns expr stmt n found) (p.entries_from size turns' expr' stmt' n' found) ts
  unfolding p.entries_from after_sign
  entries_reads zero n' found ts k m c = absurd (omega arith)
  entries_reads (suc n) zero found ts k m c = absurd (omega arith)
  entries_reads (suc n) (suc n') found ts k m c =
      o.map size (f.entries_join found) (o.bind size _ _ (entry_reads ts c) (λ x. o.least_map (f.entries_last found x) (o.least_give _))
      (λ x rest t. o.by_sign size (codes ",") (λ b. o.map size (f.entries_more found x) (o.sign_taken size 44 [] b (λ at late i. entries_reads n n' (found ++ x ∷ []) late (omega (arith, t.less)) (omega arith) (omega (arith, t.less)))))
      (λ b. o.map size (f.entries_last found x) (o.give size (found ++ x ∷ []) rest))))

  least_entries : Least (EntriesFrom [])
  least_entries = o.least_map (f.entries_join []) (o.least_seq (o.least_seq least_string (λ us. o.least_led (o.least_seq least_expr (λ a. o.least_give _)))) (λ x. o.least_map (f.entries_last [] x) (o.least_give _)))

  object_reads : (ts : Tokens) → length ts < turns → sign_is (codes "{") ts ≡ true → Reads size ExprOf (p.object size turns expr stmt) (p.object size turns' expr' stmt') ts
  unfolding p.object after_sign
  object_reads ts k b =
      o.map size f.object_join (o.sign_taken size 123 [] b (λ at rest i. o.along size {o = p.object_from size turns expr stmt (sign_is (codes "}") rest)} refl
      (λ us h. ap (λ (x : Bytes). p.object_from size turns' expr' stmt' (bytes_eq x (codes "}")) us) (same_sign us rest h)) (by rest (omega arith) (sign_is (codes "}") rest) refl))) where
        by : (rest : Tokens) → suc (length rest) < suc turns → (v : Bool) → sign_is (codes "}") rest ≡ v → Reads size ObjectAfter (p.object_from size turns expr stmt v) (p.object_from size turns' expr' stmt' v) rest
        by rest i true c = o.map size f.object_none (o.sign_taken size 125 [] c (λ d late j. o.give size (e.Object []) late))
        by rest i false c =
            o.map size f.object_some (o.bind size _ _ (entries_reads turns turns' [] rest (omega arith) enough (omega arith)) (λ xs. o.least_led (o.least_give _)) (λ xs late t. o.sign_then size 125 [] (o.least_give _) (λ d end j. o.give size (e.Object xs) end)))

  -- ---- blocks

  named_stmt_reads : (names : Names) (ts : Tokens) → length ts < turns → length ts < k → Reads size (NamedStmtOf names) (p.named_stmt size turns expr stmt names) (p.named_stmt size turns' expr' stmt' names) ts
  unfolding p.named_stmt after_word
  named_stmt_reads names ts l c =
      o.by_word size (codes "let") (λ b. o.map size (f.let_join names) (o.word_taken size 108 (codes "et") b (λ at rest i. o.bind size _ _ (fresh_reads size names rest) (λ x. o.least_led (o.least_seq least_expr (λ a. o.least_led (o.least_give _))))
      (λ x late t. o.sign_then size 61 [] (o.least_seq least_expr (λ a. o.least_led (o.least_give _)))
      (λ q end j. o.bind size _ _ (expr_reads end (omega (arith, t.less))) (λ a. o.least_led (o.least_give _)) (λ a last u. o.sign_then size 59 [] (o.least_give _) (λ r done h. o.give size (s.Let at.from x a, x ∷ names) done)))))))
      (λ b. o.map size (f.other_join names) (o.bind size _ _ (stmt_reads ts c) (λ a. o.least_give _) (λ a late t. o.give size (a, names) late)))

  stmts_reads : (n n' : ℕ) (names : Names) (found : List JsStmt) (ts : Tokens) → length ts < n → n ≤ n' → length ts < turns → length ts < k
      → Reads size (StmtsFrom names found) (p.stmts_from size turns expr stmt n names found) (p.stmts_from size turns' expr' stmt' n' names found) ts
  unfolding p.stmts_from after_sign
  stmts_reads zero n' names found ts l m c d = absurd (omega arith)
  stmts_reads (suc n) zero names found ts l m c d = absurd (omega arith)
  stmts_reads (suc n) (suc n') names found ts l m c d =
      o.by_sign size (codes "}") (λ b. o.map size (f.stmts_none names found) (o.sign_taken size 125 [] b (λ at rest i. o.give size found rest)))
      (λ b. o.map size (f.stmts_join names found) (o.bind size _ _ (named_stmt_reads names ts c d) (λ x. o.least_map (f.stmts_none x.1 (found ++ x.0 ∷ [])) (o.least_led (o.least_give _)))
      (λ x rest t.
      let less : length rest < length ts = subst (λ (us : Tokens). length rest < length us) (sym t.is) (stmt_shrinks (t.holds rest).0) in
      stmts_reads n n' x.1 (found ++ x.0 ∷ []) rest (omega (arith, less)) (omega arith) (omega (arith, less)) (omega (arith, less)))))

  block_reads : (names : Names) (ts : Tokens) → length ts < turns → Reads size (BlockOf names) (p.block size turns expr stmt names) (p.block size turns' expr' stmt' names) ts
  unfolding p.block
  block_reads names ts l =
      o.map size (f.block_join names) (o.sign_then size 123 [] (o.least_map (f.stmts_none names []) (o.least_led (o.least_give _))) (λ at rest i. stmts_reads turns turns' names [] rest (omega arith) enough (omega arith) (omega arith)))

  function_reads : (ts : Tokens) → length ts < turns → Reads size FunctionOf (p.function size turns expr stmt) (p.function size turns' expr' stmt') ts
  unfolding p.function
  function_reads ts l =
      o.map size f.function_join (o.bind size _ _ (parameters_reads size turns turns' ts l enough) (λ ps. o.least_seq (least_block ps.1) (λ xs. o.least_give _))
      (λ ps rest t. o.bind size _ _ (block_reads ps.1 rest (omega (arith, t.less))) (λ xs. o.least_give _) (λ xs late u. o.give size (record { parameters = ps.0; body = xs }) late)))

  function_value_reads : (ts : Tokens) → length ts < turns → word_is (codes "function") ts ≡ true → Reads size ExprOf (p.function_value size turns expr stmt) (p.function_value size turns' expr' stmt') ts
  unfolding p.function_value after_word
  function_value_reads ts l b =
      o.map size f.function_value_join (o.word_taken size 102 (codes "unction") b (λ at rest i. o.bind size _ _ (function_reads rest (omega arith)) (λ a. o.least_give _) (λ a late t. o.give size (e.Function a) late)))

  pub expression_reads : (ts : Tokens) → length ts < turns → Reads size ExprOf (p.expression size turns expr stmt) (p.expression size turns' expr' stmt') ts
  unfolding p.expression
  expression_reads ts l =
      o.by_sign size (codes "[") (λ b. array_reads ts l b)
      (λ b. o.by_sign size (codes "{") (λ c. object_reads ts l c)
      (λ c. o.by_word size (codes "typeof") (λ d. type_of_reads ts l d) (λ d. o.by_word size (codes "function") (λ e. function_value_reads ts l e) (λ e. o.by_word size (codes "new") (λ h. new_map_reads ts h) (λ h. plain_reads ts l)))))

  -- ---- statements that begin with a primary expression

  least_performed : (at : ℕ) (a : JsPrimary) → Least (SimpleAfter at a)
  least_performed at a = o.least_map (w.perform_join at a) (o.least_led (o.least_give _))

  assigned_reads : (at : ℕ) (a : JsPrimary) (c : Target) (ts : Tokens) → length ts < turns → p.target_of a ≡ c → sign_is (codes "=") ts ≡ true
      → Reads size (SimpleAfter at a) (p.assigned size turns expr stmt at c) (p.assigned size turns' expr' stmt' at c) ts
  unfolding p.assigned after_sign
  assigned_reads at a t.Other ts l i b = o.fail size ts (least_performed at a)
  assigned_reads at a (t.Name x) ts l i b =
      o.map size (w.assign_join at a x i) (o.sign_taken size 61 [] b (λ q rest j. o.bind size _ _ (expr_reads rest (omega arith)) (λ v. o.least_led (o.least_give _)) (λ v late u. o.sign_then size 59 [] (o.least_give _) (λ c end h. o.give size (s.Assign at x v) end))))
  assigned_reads at a (t.Slot d c) ts l i b =
      o.map size (w.store_join at a d c i) (o.sign_taken size 61 [] b (λ q rest j. o.bind size _ _ (expr_reads rest (omega arith)) (λ v. o.least_led (o.least_give _)) (λ v late u. o.sign_then size 59 [] (o.least_give _) (λ r end h. o.give size (s.Store at d c v) end))))

  labelled_reads : (at : ℕ) (a : JsPrimary) (c : Target) (ts : Tokens) → length ts < turns → p.target_of a ≡ c → sign_is (codes ":") ts ≡ true
      → Reads size (SimpleAfter at a) (p.labelled size turns expr stmt at c) (p.labelled size turns' expr' stmt' at c) ts
  unfolding p.labelled after_sign
  labelled_reads at a t.Other ts l i b = o.fail size ts (least_performed at a)
  labelled_reads at a (t.Slot d c) ts l i b = o.fail size ts (least_performed at a)
  labelled_reads at a (t.Name x) ts l i b =
      o.map size (w.label_join at a x i) (o.sign_taken size 58 [] b (λ q rest j. o.bind size _ _ (block_reads [] rest (omega arith)) (λ xs. o.least_give _) (λ xs late u. o.give size (s.Labelled at x xs) late)))

  performed_reads : (at : ℕ) (a : JsPrimary) (ts : Tokens) → Reads size (SimpleAfter at a) (p.performed size turns expr stmt at a) (p.performed size turns' expr' stmt' at a) ts
  unfolding p.performed
  performed_reads at a ts = o.map size (w.perform_join at a) (o.sign_then size 59 [] (o.least_give _) (λ c rest h. o.give size (s.Perform at a) rest))

  simple_reads : (ts : Tokens) → length ts < turns → Reads size StmtOf (p.simple size turns expr stmt) (p.simple size turns' expr' stmt') ts
  unfolding p.simple
  simple_reads ts l =
      o.along size {o = λ us. p.primary size turns expr stmt us >>= simple_after size turns expr stmt (place size ts)} {r = λ us. p.primary size turns' expr' stmt' us >>= simple_after size turns' expr' stmt' (place size ts)} refl
      (λ us h. ap (λ (at : ℕ). p.primary size turns' expr' stmt' us >>= simple_after size turns' expr' stmt' at) (o.same_place size us ts h))
      (o.map size (w.simple_join (place size ts)) (o.bind size _ _ (o.map size (from_here size ts) (o.opened size (least_start (place size ts)) (primary_reads ts l))) (λ a. least_performed (place size ts) a)
      (λ a rest u. o.by_sign size (codes "=") (λ b. assigned_reads (place size ts) a (p.target_of a) rest (omega (arith, u.less)) refl b)
      (λ b. o.by_sign size (codes ":") (λ c. labelled_reads (place size ts) a (p.target_of a) rest (omega (arith, u.less)) refl c) (λ c. performed_reads (place size ts) a rest)))))

  -- ---- statements that begin with a word

  condition_reads : (ts : Tokens) → length ts < turns → Reads size ConditionOf (p.condition size turns expr stmt) (p.condition size turns' expr' stmt') ts
  unfolding p.condition
  condition_reads ts l =
      o.sign_then size 40 [] (o.least_seq least_expr (λ a. o.least_led (o.least_give _)))
      (λ q rest j. o.bind size _ _ (expr_reads rest (omega arith)) (λ a. o.least_led (o.least_give _)) (λ a late u. o.sign_then size 41 [] (o.least_give _) (λ r end h. o.give size a end)))

  when_reads : (ts : Tokens) → length ts < turns → word_is (codes "if") ts ≡ true → Reads size StmtOf (p.when size turns expr stmt) (p.when size turns' expr' stmt') ts
  unfolding p.when after_word
  when_reads ts l b =
      o.map size w.when_join (o.word_taken size 105 (codes "f") b (λ at rest j. o.bind size _ _ (condition_reads rest (omega arith)) (λ a. o.least_seq (least_block []) (λ xs. o.least_map (w.if_join at a xs) (o.least_give _)))
      (λ a late u. o.bind size _ _ (block_reads [] late (omega (arith, u.less))) (λ xs. o.least_map (w.if_join at a xs) (o.least_give _))
      (λ xs end v. o.by_word size (codes "else") (λ c. o.map size (w.if_else_join at a xs) (o.word_taken size 101 (codes "lse") c (λ q last h. o.bind size _ _ (block_reads [] last (omega (arith, u.less, v.less))) (λ ys. o.least_give _) (λ ys done z. o.give size (s.IfElse at.from a xs ys) done))))
      (λ c. o.map size (w.if_join at a xs) (o.give size (s.If at.from a xs) end))))))

  repeat_reads : (ts : Tokens) → length ts < turns → word_is (codes "while") ts ≡ true → Reads size StmtOf (p.repeat size turns expr stmt) (p.repeat size turns' expr' stmt') ts
  unfolding p.repeat after_word
  repeat_reads ts l b =
      o.map size w.loop_join (o.word_taken size 119 (codes "hile") b (λ at rest j. o.sign_then size 40 [] (o.least_led (o.least_led (o.least_seq (least_block []) (λ xs. o.least_give _))))
      (λ q late h. o.word_then size 116 (codes "rue") (o.least_led (o.least_seq (least_block []) (λ xs. o.least_give _)))
      (λ r end m. o.sign_then size 41 [] (o.least_seq (least_block []) (λ xs. o.least_give _)) (λ c last n. o.bind size _ _ (block_reads [] last (omega arith)) (λ xs. o.least_give _) (λ xs done u. o.give size (s.Loop at.from xs) done))))))

  leave_reads : (ts : Tokens) → word_is (codes "break") ts ≡ true → Reads size StmtOf (p.leave size turns expr stmt) (p.leave size turns' expr' stmt') ts
  unfolding p.leave after_word
  leave_reads ts b =
      o.map size w.break_join (o.word_taken size 98 (codes "reak") b (λ at rest j. o.line_then size (least_leave at) (λ v x h tail. leave_some at v x h tail)
      (o.bind size _ _ (name_reads size rest) (λ x. o.least_led (o.least_give _)) (λ x late u. o.sign_then size 59 [] (o.least_give _) (λ r end h. o.give size (s.Break at.from x) end)))))

  value_reads : (make : JsExpr → JsStmt) (ts : Tokens) → length ts < k → Reads size (ValueOf make) (λ us. expr us >>= λ a. expect size (codes ";") a.1 >>= λ c. Ok (make a.0, c)) (λ us. expr' us >>= λ a. expect size (codes ";") a.1 >>= λ c. Ok (make a.0, c)) ts
  value_reads make ts l = o.bind size _ _ (expr_reads ts l) (λ a. o.least_led (o.least_give _)) (λ a late u. o.sign_then size 59 [] (o.least_give _) (λ r end h. o.give size (make a) end))

  returned_reads : (ts : Tokens) → length ts < turns → word_is (codes "return") ts ≡ true → Reads size StmtOf (p.returned size turns expr stmt) (p.returned size turns' expr' stmt') ts
  unfolding p.returned after_word
  returned_reads ts l b =
      o.map size w.return_join (o.word_taken size 114 (codes "eturn") b (λ at rest j. o.line_then size (least_value (λ a. s.Return at.from a)) (λ v x h tail. value_some (λ a. s.Return at.from a) v x h tail) (value_reads (λ a. s.Return at.from a) rest (omega arith))))

  thrown_reads : (ts : Tokens) → length ts < turns → word_is (codes "throw") ts ≡ true → Reads size StmtOf (p.thrown size turns expr stmt) (p.thrown size turns' expr' stmt') ts
  unfolding p.thrown after_word
  thrown_reads ts l b =
      o.map size w.throw_join (o.word_taken size 116 (codes "hrow") b (λ at rest j. o.line_then size (least_value (λ a. s.Throw at.from a)) (λ v x h tail. value_some (λ a. s.Throw at.from a) v x h tail) (value_reads (λ a. s.Throw at.from a) rest (omega arith))))

  caught_reads : (at : Place) (xs : List JsStmt) (ts : Tokens) → length ts < turns → word_is (codes "catch") ts ≡ true → Reads size (TryAfter at xs) (p.caught size turns expr stmt at.from xs) (p.caught size turns' expr' stmt' at.from xs) ts
  unfolding p.caught after_word
  caught_reads at xs ts l b =
      o.map size (w.catch_join at xs) (o.word_taken size 99 (codes "atch") b (λ c rest j. o.sign_then size 40 [] (o.least_seq (least_fresh []) (λ x. o.least_led (o.least_seq (least_block (x ∷ [])) (λ ys. o.least_give _))))
      (λ d late h. o.bind size _ _ (fresh_reads size [] late) (λ x. o.least_led (o.least_seq (least_block (x ∷ [])) (λ ys. o.least_give _)))
      (λ x end u. o.sign_then size 41 [] (o.least_seq (least_block (x ∷ [])) (λ ys. o.least_give _)) (λ q last m. o.bind size _ _ (block_reads (x ∷ []) last (omega (arith, u.less))) (λ ys. o.least_give _) (λ ys done v. o.give size (s.TryCatch at.from xs x ys) done))))))

  finished_reads : (at : Place) (xs : List JsStmt) (ts : Tokens) → length ts < turns → Reads size (TryAfter at xs) (p.finished size turns expr stmt at.from xs) (p.finished size turns' expr' stmt' at.from xs) ts
  unfolding p.finished
  finished_reads at xs ts l =
      o.map size (w.finally_join at xs) (o.word_then size 102 (codes "inally") (o.least_seq (least_block []) (λ ys. o.least_give _)) (λ c rest j. o.bind size _ _ (block_reads [] rest (omega arith)) (λ ys. o.least_give _) (λ ys late u. o.give size (s.TryFinally at.from xs ys) late)))

  tried_reads : (ts : Tokens) → length ts < turns → word_is (codes "try") ts ≡ true → Reads size StmtOf (p.tried size turns expr stmt) (p.tried size turns' expr' stmt') ts
  unfolding p.tried after_word
  tried_reads ts l b =
      o.map size w.try_join (o.word_taken size 116 (codes "ry") b (λ at rest j. o.bind size _ _ (block_reads [] rest (omega arith)) (λ xs. o.least_map (w.finally_join at xs) (o.least_led (o.least_seq (least_block []) (λ ys. o.least_give _))))
      (λ xs late u. o.by_word size (codes "catch") (λ c. caught_reads at xs late (omega (arith, u.less)) c) (λ c. finished_reads at xs late (omega (arith, u.less))))))

  pub statement_reads : (ts : Tokens) → length ts < turns → Reads size StmtOf (p.statement size turns expr stmt) (p.statement size turns' expr' stmt') ts
  unfolding p.statement
  statement_reads ts l =
      o.by_word size (codes "if") (λ b. when_reads ts l b)
      (λ b. o.by_word size (codes "return") (λ c. returned_reads ts l c)
      (λ c. o.by_word size (codes "while") (λ d. repeat_reads ts l d)
      (λ d. o.by_word size (codes "break") (λ h. leave_reads ts h)
      (λ h. o.by_word size (codes "throw") (λ m. thrown_reads ts l m)
      (λ m. o.by_word size (codes "try") (λ n. tried_reads ts l n) (λ n. simple_reads ts l))))))

  -- ---- items

  declared_reads : (names : Names) (ts : Tokens) → length ts < turns → word_is (codes "function") ts ≡ true → Reads size (ItemOf names) (p.declared_function size turns expr stmt names) (p.declared_function size turns' expr' stmt' names) ts
  unfolding p.declared_function after_word
  declared_reads names ts l b =
      o.map size (w.declared_join names) (o.word_taken size 102 (codes "unction") b (λ at rest j. o.bind size _ _ (fresh_reads size names rest) (λ x. o.least_seq least_function (λ c. o.least_give _))
      (λ x late u. o.bind size _ _ (function_reads late (omega (arith, u.less))) (λ c. o.least_give _) (λ c end v. o.give size (i.Declared x c, x ∷ names) end))))

  variable_reads : (names : Names) (ts : Tokens) → length ts < turns → word_is (codes "var") ts ≡ true → Reads size (ItemOf names) (p.variable size turns expr stmt names) (p.variable size turns' expr' stmt' names) ts
  unfolding p.variable after_word
  variable_reads names ts l b =
      o.map size (w.var_join names) (o.word_taken size 118 (codes "ar") b (λ at rest j. o.bind size _ _ (fresh_reads size names rest) (λ x. o.least_led (o.least_seq least_expr (λ a. o.least_led (o.least_give _))))
      (λ x late u. o.sign_then size 61 [] (o.least_seq least_expr (λ a. o.least_led (o.least_give _)))
      (λ q end h. o.bind size _ _ (expr_reads end (omega (arith, u.less))) (λ a. o.least_led (o.least_give _)) (λ a last v. o.sign_then size 59 [] (o.least_give _) (λ r done m. o.give size (i.Var at.from x a, x ∷ names) done))))))

  item_stmt_reads : (names : Names) (ts : Tokens) → length ts < turns → length ts < k → Reads size (ItemOf names) (p.item_stmt size turns expr stmt names) (p.item_stmt size turns' expr' stmt' names) ts
  unfolding p.item_stmt
  item_stmt_reads names ts l c = o.map size (w.item_stmt_join names) (o.bind size _ _ (named_stmt_reads names ts l c) (λ x. o.least_give _) (λ x rest u. o.give size (i.Statement x.0, x.1) rest))

  item_reads : (names : Names) (ts : Tokens) → length ts < turns → length ts < k → Reads size (ItemOf names) (p.item size turns expr stmt names) (p.item size turns' expr' stmt' names) ts
  unfolding p.item
  item_reads names ts l c = o.by_word size (codes "function") (λ b. declared_reads names ts l b) (λ b. o.by_word size (codes "var") (λ d. variable_reads names ts l d) (λ d. item_stmt_reads names ts l c))

  -- items that are read
  pub items_read : (n : ℕ) (names : Names) (found : List JsItem) (ts : Tokens) (r : List JsItem) → length ts < n → length ts < turns → length ts < k → p.items_from size turns expr stmt n names found ts ≡ Ok r
      → (xs : List JsItem) × (found ++ xs ≡ r) × AreItems names ts xs
  unfolding p.items_from
  items_read zero names found ts r l c d h = absurd (omega arith)
  items_read (suc n) names found ts r l c d h = elim (chosen (is_end ts) _ _ (Ok r) h) [
    | inl y ↦ ([], append-nil found ∙ ok_is found r y.1, subst (λ (us : Tokens). AreItems names us []) (sym (nothing_left ts y.0)) g.no_items)
    | inr y ↦
        read_by size names ts found r (p.item size turns' expr' stmt' names) (λ x. p.items_from size turns expr stmt n x.0.1 (found ++ x.0.0 ∷ []) x.1) (item_reads names ts c d).answer
        (λ x rest e less. items_read n x.1 (found ++ x.0 ∷ []) rest r (omega (arith, less)) (omega (arith, less)) (omega (arith, less)) e) y.1
  ]

  -- where the items stop
  pub items_stop : (n n' : ℕ) (names : Names) (found : List JsItem) (ts : Tokens) (at : ℕ) → length ts < n → n ≤ n' → length ts < turns → length ts < k → p.items_from size turns expr stmt n names found ts ≡ Err at
      → Stops size names (p.items_from size turns' expr' stmt' n' names found) ts at
  unfolding p.items_from
  items_stop zero n' names found ts at l m c d h = absurd (omega arith)
  items_stop (suc n) zero names found ts at l m c d h = absurd (omega arith)
  items_stop (suc n) (suc n') names found ts at l m c d h = elim (chosen (is_end ts) _ _ (Err at) h) [
    | inl y ↦ absurd (ended y.1)
    | inr y ↦
        stop_by size names ts at (p.item size turns' expr' stmt' names) (λ x. p.items_from size turns expr stmt n x.0.1 (found ++ x.0.0 ∷ []) x.1) (λ x. p.items_from size turns' expr' stmt' n' x.0.1 (found ++ x.0.0 ∷ []) x.1)
        (item_reads names ts c d).answer (λ x rest e less. items_stop n n' x.1 (found ++ x.0 ∷ []) rest at (omega (arith, less)) (omega arith) (omega (arith, less)) (omega (arith, less)) e) y.1
        (p.items_from size turns' expr' stmt' (suc n') names found) (λ us e. ap (λ (v : Bool). cond v (Ok found) (p.item size turns' expr' stmt' names us >>= λ x. p.items_from size turns' expr' stmt' n' x.0.1 (found ++ x.0.0 ∷ []) x.1)) (same_end us ts e ∙ y.0))
  ] where
    ended : (let ok : List JsItem → Result (List JsItem) ℕ = Ok in let err : ℕ → Result (List JsItem) ℕ = Err in ok found ≡ err at) → ⊥
    ended e = absurd cc
