-- One item further.
use Rattle.std.proofs.Common.{◌∙◌, ◌≡◌, ℕ, zero, suc, ◌+◌, ◌-◌, ◌<◌, ◌≤◌, Bool, List, ◌++◌, length, get_or, take, drop}
use Rattle.std.proofs.Common.{Result, Ok, Err, refl, ap, subst, append_assoc, append-nil, arith}
use Rattle.std.proofs.Math.Seq.{drop-cons}
use Rattle.std.proofs.lemmas.List.{drop_all}
use Rattle.std.proofs.Math.Numerals.{add-one}
use Rattle.fx_lexer.specs.declared.item.Item.{Item}
use Rattle.fx_lexer.specs.declared.token.Token.{Token}
use Rattle.fx_lexer.specs.declared.token.LexFault.{LexFault}
use Rattle.fx_lexer.specs.Places.{place_after}
use Rattle.fx_lexer.specs.Items.{first_item}
use Rattle.fx_lexer.specs.Lexing.{lexed, lexed_from, in_front, tokens_of, starts_after}

module _ (text : List ℕ) where
  -- the bytes of an item are passed over
  passed_from : (start : Bool) (n i : ℕ) → i + n ≤ length text
      → lexed_from text n start i (drop i text) ≡ lexed_from text 0 start (i + n) (drop (i + n) text)
  passed_from start zero i h = let e : i + 0 ≡ i = omega arith in rw e refl
  passed_from start (suc n) i h =
      let inside : i < length text = omega arith in
      let e : (i + 1) + n ≡ i + suc n = omega arith in
      rw (drop-cons text i 0 inside, ← e, ← (add-one i)) (passed_from start n (i + 1) (omega arith))

module _ (text : List ℕ) (start : Bool) where
  -- the item at i, and then the rest
  pub item_read : (i : ℕ) (it : Item) → first_item start (drop i text) ≡ Ok it → 0 < it.length
      → i + it.length ≤ length text
      → lexed_from text 0 start i (drop i text)
      ≡ in_front (tokens_of (place_after (take i text)) i it)
      (lexed_from text 0 (starts_after start it (get_or text i 0)) (i + it.length) (drop (i + it.length) text))
  item_read i it e positive fits =
      let inside : i < length text = omega arith in
      let f = rw (drop-cons text i 0 inside) at e in
      let next = starts_after start it (get_or text i 0) in
      let g : i + 1 + (it.length - 1) ≡ i + it.length = omega arith in
      let rest = rw g at (passed_from text next (it.length - 1) (i + 1) (omega arith)) in
      let P : ℕ → Type 0 =
      λ m. lexed_from text (it.length - 1) next (i + 1) (drop m text)
      ≡ lexed_from text 0 next (i + it.length) (drop (i + it.length) text) in
      rw (drop-cons text i 0 inside, f)
      (ap (λ r. in_front (tokens_of (place_after (take i text)) i it) r) (subst P (add-one i) rest))

-- more tokens in front
pub in_front_twice : (a b : List Token) (r : Result (List Token) LexFault)
    → in_front a (in_front b r) ≡ in_front (a ++ b) r
in_front_twice a b (Ok x) = cc (append_assoc a b x)
in_front_twice a b (Err e) = refl

-- nothing is left to read
pub all_read : (text : List ℕ) (start : Bool) (at : ℕ) (tokens : List Token) → length text ≤ at
    → lexed text ≡ in_front tokens (lexed_from text 0 start at (drop at text)) → lexed text ≡ Ok tokens
all_read text start at tokens end e = e ∙ rw (drop_all at text end) (cc (append-nil tokens))
