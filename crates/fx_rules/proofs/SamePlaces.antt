-- Blanks in a text leave its places.
use Rattle.std.proofs.Common.{ℕ, ◌≡◌, ◌+◌, Bool, true, false, List, [], ◌∷◌, map, take, reverse, cond, refl, sym}
use Rattle.std.proofs.Common.{ap, ◌∙◌, inl, inr}
use Rattle.std.specs.Prelude.{◌&&◌, ◌==◌, not, nat_le, nat_lt, count_by, if◌then◌else◌}
use Rattle.std.specs.List.{prefix_len, take-map}
use Rattle.std.proofs.lemmas.Bool.{cases_Bool}
use Rattle.std.proofs.lemmas.List.{map-append}
use Rattle.std.proofs.lemmas.List.Sums.{sum_by-cons}
use Rattle.std.proofs.lemmas.Grind.{reverse_onto}
use Rattle.fx_lexer.specs.Places.{place_after}
use Rattle.fx_lexer.specs.declared.place.Place.{Place}
use Rattle.fx_rules.specs.declared.parts.Part.{Part}
use Rattle.fx_rules.specs.Parts.{blank_of, blanked, blanked_from}

-- the end of a line
abbrev is_feed : ℕ → Bool
is_feed b = b == 10

abbrev own : Bool → Bool
own f = f

blank_feed : (inside : Bool) (b : ℕ) → is_feed (if inside then blank_of b else b) ≡ is_feed b
blank_feed false b = refl
blank_feed true b = elim (cases_Bool (b == 10)) [ inl is ↦ rw is | inr other ↦ rw other ]

part_feeds : (at end i : ℕ) (text : List ℕ) → map is_feed (blanked_from at end i text) ≡ map is_feed text
part_feeds at end i [] = refl
part_feeds at end i (b ∷ text) =
    cc (blank_feed (nat_le at i && nat_lt i end) b, part_feeds at end (i + 1) text)

all_feeds : (text : List ℕ) (parts : List Part) → map is_feed (blanked text parts) ≡ map is_feed text
all_feeds text [] = refl
all_feeds text (p ∷ parts) = all_feeds (blanked_from p.at p.end 0 text) parts ∙ part_feeds p.at p.end 0 text

count_feeds : (xs : List ℕ) → count_by is_feed xs ≡ count_by own (map is_feed xs)
count_feeds [] = refl
count_feeds (b ∷ xs) =
    let one : Bool → ℕ = λ f. cond f 1 0 in
    cc (sum_by-cons (λ c. one (is_feed c)) b xs, count_feeds xs, sum_by-cons one (is_feed b) (map is_feed xs))

before_feed : (xs : List ℕ) → prefix_len (λ b. not (is_feed b)) xs ≡ prefix_len not (map is_feed xs)
before_feed [] = refl
before_feed (b ∷ xs) = let rest = before_feed xs in elim (cases_Bool (b == 10)) [
  | inl is ↦ rw is
  | inr other ↦ rw (other, rest)
]

turned : (xs : List ℕ) → map is_feed (reverse xs) ≡ reverse (map is_feed xs)
turned [] = refl
turned (b ∷ xs) =
    cc (
      reverse_onto xs b [],
      map-append is_feed (reverse xs) (b ∷ []),
      turned xs,
      reverse_onto (map is_feed xs)
          (is_feed b) [],
    )

same_place : (xs ys : List ℕ) → map is_feed xs ≡ map is_feed ys → place_after xs ≡ place_after ys
same_place xs ys e =
    let lines : count_by is_feed xs ≡ count_by is_feed ys =
    cc (count_feeds xs, count_feeds ys) in
    let columns : prefix_len (λ b. not (is_feed b)) (reverse xs) ≡ prefix_len (λ b. not (is_feed b)) (reverse ys) =
    cc (before_feed (reverse xs), turned xs, turned ys, before_feed (reverse ys)) in
    let place : ℕ → ℕ → Place = λ l c. record { line = 1 + l; column = 1 + c } in
    cc

-- the place of each byte
pub same_places : (text : List ℕ) (parts : List Part) (i : ℕ)
    → place_after (take i (blanked text parts)) ≡ place_after (take i text)
same_places text parts i =
    same_place _ _
    (sym (take-map is_feed i (blanked text parts)) ∙ (ap (take i) (all_feeds text parts) ∙ take-map is_feed i text))
