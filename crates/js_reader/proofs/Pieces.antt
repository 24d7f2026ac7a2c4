-- Tokens that stand before others.
use Rattle.std.proofs.Common.{◌≡◌, ◌≤◌, [], ◌∷◌, ◌++◌, length, Option, Some, None, refl, ap, ◌∙◌, sym, append_assoc, arith}
use Rattle.js_tree.specs.Tokens.{Token, Tokens}

pub data Pieces : Type 0 where
  nothing : Pieces
  token : Token → Pieces → Pieces
  both : Pieces → Pieces → Pieces

-- the pieces, and then these tokens
abbrev pub put : Pieces → Tokens → Tokens
put nothing ts = ts
put (token t a) ts = t ∷ put a ts
put (both a b) ts = put a (put b ts)

abbrev pub head_of : Tokens → Option Token
head_of [] = None
head_of (t ∷ ts) = Some t

pub put_list : (a : Pieces) (ts : Tokens) → put a ts ≡ put a [] ++ ts
put_list nothing ts = refl
put_list (token t a) ts = ap (λ (us : Tokens). t ∷ us) (put_list a ts)
put_list (both a b) ts =
    put_list a (put b ts) ∙ (ap (λ (us : Tokens). put a [] ++ us) (put_list b ts) ∙ (sym (append_assoc (put a []) (put b []) ts) ∙ ap (λ (us : Tokens). us ++ ts) (sym (put_list a (put b [])))))

pub put_longer : (a : Pieces) (ts : Tokens) → length ts ≤ length (put a ts)
put_longer nothing ts = omega arith
put_longer (token t a) ts = omega (arith, put_longer a ts)
put_longer (both a b) ts = omega (arith, put_longer a (put b ts), put_longer b ts)

-- the first token is the same before tokens that begin with the same one
pub put_head : (a : Pieces) (late rest : Tokens) → head_of late ≡ head_of rest → head_of (put a late) ≡ head_of (put a rest)
put_head nothing late rest e = e
put_head (token t a) late rest e = refl
put_head (both a b) late rest e = put_head a (put b late) (put b rest) (put_head b late rest e)
