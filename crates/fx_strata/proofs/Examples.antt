-- Good books of small tables, computed.
use Rattle.std.proofs.Common.{ℕ, ◌≡◌, true, List, [], ◌∷◌, Some, refl, sym, ap, arith}
use Rattle.fx_designs.specs.Galois.{add, mul, neg, inv, prime_of, degree_of, reduction_of}
use Rattle.fx_designs.specs.Spans.{in_span}
use Rattle.fx_designs.specs.Vectors.{vectors_of}
use Rattle.fx_laws.proofs.Tables.{is_order-field}
use Rattle.fx_words.specs.Spreads.{spread}
use Rattle.fx_designs.specs.Problems.{Dimensions}
use Rattle.fx_strata.specs.Designs.{Strata, key_of, IsLeast}
use Rattle.fx_strata.specs.Orders.{factors_first, cheng_wu_first, most_clear}
use Rattle.fx_strata.specs.Words.{words_in}
use Rattle.fx_strata.specs.Sums.{effects_at}
use Rattle.fx_strata.specs.Canonical.{figures, base, units}
use Rattle.fx_strata.specs.Changes.{normal_multiple, moved, falling_order}
use Rattle.fx_strata.specs.Floors.{least_sum}
use Rattle.fx_strata.specs.Stages.{is_design}
use Rattle.fx_strata.specs.Books.{Claim, Entry, Branch, Worse, Image, NoRoom, Floor, is_good}
use Rattle.fx_strata.proofs.Good.{least_of_all}

-- four factors in 8 runs, in two blocks
abbrev blocks : Strata
blocks = record { q = 2; m = 3; h = 1; w = 0; n = 4 }

abbrev blocks-rows : List ℕ
blocks-rows = (2 ∷ 4 ∷ 5 ∷ 3 ∷ [])

abbrev blocks-claim : Claim
blocks-claim = record {
  strata = blocks;
  order = factors_first blocks;
  beat = Some (0 ∷ 1 ∷ 2 ∷ 0 ∷ 0 ∷ []);
}

abbrev blocks-entries : List Entry
blocks-entries = (Branch 2 ∷ Branch 4 ∷ Floor 7 ∷ Worse 6 ∷ Floor 5 ∷ NoRoom 3 ∷ [])

blocks-key : key_of (factors_first blocks) (figures blocks blocks-rows)
    ≡ (0 ∷ 1 ∷ 2 ∷ 0 ∷ 0 ∷ [])
unfolding prime_of degree_of reduction_of add mul neg inv words_in effects_at spread in_span
blocks-key = refl

blocks-design : is_design blocks blocks-rows ≡ true
unfolding prime_of degree_of reduction_of add mul neg inv words_in effects_at spread in_span
blocks-design = refl

blocks-good : is_good blocks-claim blocks-entries ≡ true
unfolding prime_of degree_of reduction_of add mul neg inv words_in effects_at spread in_span
blocks-good = refl

-- so it is of least key, of all such designs
blocks-least : IsLeast blocks (factors_first blocks) (base blocks)
    (vectors_of 2 3 blocks-rows)
blocks-least =
    least_of_all blocks-claim (is_order-field 2 refl) (omega arith) blocks-entries
    blocks-good (omega arith) blocks-rows blocks-design (ap Some (sym blocks-key))

-- four factors in 16 runs, in eight blocks: prefixes are left out for images, for want of room and for floors
abbrev eight_blocks : Strata
eight_blocks = record { q = 2; m = 4; h = 3; w = 0; n = 4 }

abbrev eight_blocks-rows : List ℕ
eight_blocks-rows = (8 ∷ 15 ∷ 14 ∷ 13 ∷ [])

abbrev eight_blocks-claim : Claim
eight_blocks-claim = record {
  strata = eight_blocks;
  order = factors_first eight_blocks;
  beat = Some (0 ∷ 0 ∷ 6 ∷ 0 ∷ 1 ∷ []);
}

abbrev eight_blocks-entries : List Entry
eight_blocks-entries =
    (Branch 8 ∷ Branch 15 ∷ Branch 14 ∷ Worse 13 ∷ Worse 12 ∷ Worse 11 ∷ Worse 10 ∷ Worse 9 ∷
    Image 13 (2 ∷ 1 ∷ 4 ∷ 8 ∷ []) ∷ Image 12 (7 ∷ 2 ∷ 4 ∷ 8 ∷ []) ∷ Floor 11 ∷ Floor 10 ∷ NoRoom 9 ∷
    Image 14 (5 ∷ 2 ∷ 4 ∷ 8 ∷ []) ∷ Image 13 (1 ∷ 6 ∷ 4 ∷ 8 ∷ []) ∷ Image 12 (5 ∷ 2 ∷ 4 ∷ 8 ∷ []) ∷
    Image 11 (1 ∷ 4 ∷ 2 ∷ 8 ∷ []) ∷ NoRoom 10 ∷ NoRoom 9 ∷ [])

eight_blocks-key : key_of (factors_first eight_blocks) (figures eight_blocks eight_blocks-rows)
    ≡ (0 ∷ 0 ∷ 6 ∷ 0 ∷ 1 ∷ [])
unfolding prime_of degree_of reduction_of add mul neg inv words_in effects_at spread in_span
eight_blocks-key = refl

eight_blocks-design : is_design eight_blocks eight_blocks-rows ≡ true
unfolding prime_of degree_of reduction_of add mul neg inv words_in effects_at spread in_span
eight_blocks-design = refl

eight_blocks-good : is_good eight_blocks-claim eight_blocks-entries ≡ true
unfolding prime_of degree_of reduction_of add mul neg inv words_in effects_at spread in_span
eight_blocks-good = refl

-- so it is of least key, of all such designs
eight_blocks-least : IsLeast eight_blocks (factors_first eight_blocks) (base eight_blocks)
    (vectors_of 2 4 eight_blocks-rows)
eight_blocks-least =
    least_of_all eight_blocks-claim (is_order-field 2 refl) (omega arith) eight_blocks-entries
    eight_blocks-good (omega arith) eight_blocks-rows eight_blocks-design (ap Some (sym eight_blocks-key))

-- three levels, 27 runs in nine whole plots: three inside factors and two outside factors
abbrev split_plot : Strata
split_plot = record { q = 3; m = 3; h = 2; w = 3; n = 2 }

abbrev split_plot-rows : List ℕ
split_plot-rows = (1 ∷ 3 ∷ 5 ∷ 9 ∷ 17 ∷ [])

abbrev split_plot-claim : Claim
split_plot-claim = record {
  strata = split_plot;
  order = cheng_wu_first split_plot;
  beat = Some (2 ∷ 6 ∷ 2 ∷ 0 ∷ 12 ∷ 18 ∷ 16 ∷ []);
}

abbrev split_plot-entries : List Entry
split_plot-entries =
    (Branch 1 ∷ Branch 3 ∷ Branch 5 ∷ Branch 9 ∷ Worse 17 ∷ Worse 16 ∷ Worse 15 ∷ Worse 14 ∷ Worse 13 ∷ Worse 12 ∷
    Worse 11 ∷ Worse 10 ∷ Image 4 (1 ∷ 6 ∷ 9 ∷ []) ∷ [])

split_plot-key : key_of (cheng_wu_first split_plot) (figures split_plot split_plot-rows)
    ≡ (2 ∷ 6 ∷ 2 ∷ 0 ∷ 12 ∷ 18 ∷ 16 ∷ [])
unfolding prime_of degree_of reduction_of add mul neg inv words_in effects_at spread in_span
split_plot-key = refl

split_plot-design : is_design split_plot split_plot-rows ≡ true
unfolding prime_of degree_of reduction_of add mul neg inv words_in effects_at spread in_span
split_plot-design = refl

split_plot-good : is_good split_plot-claim split_plot-entries ≡ true
unfolding prime_of degree_of reduction_of add mul neg inv words_in effects_at spread in_span
split_plot-good = refl

-- so it is of least key, of all such designs
split_plot-least : IsLeast split_plot (cheng_wu_first split_plot) (base split_plot)
    (vectors_of 3 3 split_plot-rows)
split_plot-least =
    least_of_all split_plot-claim (is_order-field 3 refl) (omega arith) split_plot-entries
    split_plot-good (omega arith) split_plot-rows split_plot-design (ap Some (sym split_plot-key))

-- most clear words first: three levels, four factors in 27 runs; 12 of 24 words are clear, 6 of 12 components
abbrev clear_three : Strata
clear_three = record { q = 3; m = 3; h = 0; w = 0; n = 4 }

abbrev clear_three-rows : List ℕ
clear_three-rows = (1 ∷ 3 ∷ 9 ∷ 17 ∷ [])

abbrev clear_three-claim : Claim
clear_three-claim = record {
  strata = clear_three;
  order = most_clear clear_three;
  beat = Some (0 ∷ 12 ∷ 2 ∷ []);
}

abbrev clear_three-entries : List Entry
clear_three-entries =
    (Branch 1 ∷ Branch 3 ∷ Branch 9 ∷ Worse 17 ∷ Worse 16 ∷ Worse 15 ∷ Worse 14 ∷ Worse 13 ∷ Worse 12 ∷ Worse 11 ∷
    Worse 10 ∷ Worse 5 ∷ Worse 4 ∷ [])

clear_three-key : key_of (most_clear clear_three) (figures clear_three clear_three-rows)
    ≡ (0 ∷ 12 ∷ 2 ∷ [])
unfolding prime_of degree_of reduction_of add mul neg inv words_in effects_at spread in_span
clear_three-key = refl

clear_three-design : is_design clear_three clear_three-rows ≡ true
unfolding prime_of degree_of reduction_of add mul neg inv words_in effects_at spread in_span
clear_three-design = refl

clear_three-good : is_good clear_three-claim clear_three-entries ≡ true
unfolding prime_of degree_of reduction_of add mul neg inv words_in effects_at spread in_span
clear_three-good = refl

-- so it is of least key, of all such designs
clear_three-least : IsLeast clear_three (most_clear clear_three) (base clear_three)
    (vectors_of 3 3 clear_three-rows)
clear_three-least =
    least_of_all clear_three-claim (is_order-field 3 refl) (omega arith) clear_three-entries
    clear_three-good (omega arith) clear_three-rows clear_three-design (ap Some (sym clear_three-key))

-- five factors in 16 runs, in four blocks; some floors hold by the live sums alone
abbrev clear_blocks : Strata
clear_blocks = record { q = 2; m = 4; h = 2; w = 0; n = 5 }

abbrev clear_blocks-rows : List ℕ
clear_blocks-rows = (4 ∷ 8 ∷ 15 ∷ 14 ∷ 13 ∷ [])

abbrev clear_blocks-claim : Claim
clear_blocks-claim = record {
  strata = clear_blocks;
  order = most_clear clear_blocks;
  beat = Some (0 ∷ 3 ∷ 0 ∷ 1 ∷ 3 ∷ 3 ∷ 0 ∷ 0 ∷ []);
}

abbrev clear_blocks-entries : List Entry
clear_blocks-entries =
    (Branch 4 ∷ Branch 8 ∷ Branch 15 ∷ Branch 14 ∷ Worse 13 ∷ Worse 12 ∷ Worse 11 ∷ Worse 10 ∷ Worse 9 ∷ Worse 7 ∷
    Worse 6 ∷ Worse 5 ∷ Branch 13 ∷ Worse 12 ∷ Worse 11 ∷ Worse 10 ∷ Worse 9 ∷ Worse 7 ∷ Worse 6 ∷ Worse 5 ∷
    Worse 12 ∷ Worse 11 ∷ Branch 10 ∷ Worse 9 ∷ Worse 7 ∷ Worse 6 ∷ Worse 5 ∷ Branch 9 ∷ Worse 7 ∷ Worse 6 ∷
    Worse 5 ∷ Worse 7 ∷ Floor 6 ∷ NoRoom 5 ∷ Branch 14 ∷ Branch 13 ∷ Worse 12 ∷ Worse 11 ∷ Worse 10 ∷ Worse 9 ∷
    Worse 7 ∷ Worse 6 ∷ Worse 5 ∷ Worse 12 ∷ Branch 11 ∷ Worse 10 ∷ Worse 9 ∷ Worse 7 ∷ Worse 6 ∷ Worse 5 ∷
    Worse 10 ∷ Branch 9 ∷ Worse 7 ∷ Worse 6 ∷ Worse 5 ∷ Branch 7 ∷ Worse 6 ∷ Worse 5 ∷ Worse 6 ∷ NoRoom 5 ∷
    Branch 13 ∷ Worse 12 ∷ Branch 11 ∷ Worse 10 ∷ Worse 9 ∷ Worse 7 ∷ Worse 6 ∷ Worse 5 ∷ Branch 10 ∷ Worse 9 ∷
    Worse 7 ∷ Worse 6 ∷ Worse 5 ∷ Worse 9 ∷ Branch 7 ∷ Worse 6 ∷ Worse 5 ∷ Floor 6 ∷ Worse 5 ∷ Worse 12 ∷ Branch 11 ∷
    Floor 10 ∷ Floor 9 ∷ Worse 7 ∷ Floor 6 ∷ NoRoom 5 ∷ Branch 10 ∷ Floor 9 ∷ Floor 7 ∷ Worse 6 ∷ NoRoom 5 ∷
    Branch 9 ∷ Floor 7 ∷ Floor 6 ∷ Worse 5 ∷ Branch 7 ∷ Floor 6 ∷ NoRoom 5 ∷ NoRoom 6 ∷ NoRoom 5 ∷ [])

clear_blocks-key : key_of (most_clear clear_blocks) (figures clear_blocks clear_blocks-rows)
    ≡ (0 ∷ 3 ∷ 0 ∷ 1 ∷ 3 ∷ 3 ∷ 0 ∷ 0 ∷ [])
unfolding prime_of degree_of reduction_of add mul neg inv words_in effects_at spread in_span
clear_blocks-key = refl

clear_blocks-design : is_design clear_blocks clear_blocks-rows ≡ true
unfolding prime_of degree_of reduction_of add mul neg inv words_in effects_at spread in_span
clear_blocks-design = refl

clear_blocks-good : is_good clear_blocks-claim clear_blocks-entries ≡ true
unfolding prime_of degree_of reduction_of add mul neg inv words_in effects_at spread in_span
clear_blocks-good = refl

-- so it is of least key, of all such designs
clear_blocks-least : IsLeast clear_blocks (most_clear clear_blocks) (base clear_blocks)
    (vectors_of 2 4 clear_blocks-rows)
clear_blocks-least =
    least_of_all clear_blocks-claim (is_order-field 2 refl) (omega arith) clear_blocks-entries
    clear_blocks-good (omega arith) clear_blocks-rows clear_blocks-design (ap Some (sym clear_blocks-key))

-- s factors of q levels in q^m runs
abbrev factors : ℕ → ℕ → ℕ → Dimensions
factors s q m = record { q = q; m = m; s = s; t = 0 }

-- at three levels 2 2 is twice 1 1, which is normal
multiples : (normal_multiple 3 (2 ∷ 2 ∷ []) ≡ 1 ∷ 1 ∷ []) × (normal_multiple 3 (0 ∷ 0 ∷ []) ≡ 0 ∷ 0 ∷ [])
unfolding prime_of degree_of reduction_of add mul neg inv
multiples = (refl, refl)

-- with A and B exchanged AC becomes BC. At three levels, where the second index is taken twice, A + B becomes A + 2B,
-- whose normal multiple is 2A + B. What is taken to zero stays zero.
rows_moved :
    (moved (factors 4 2 3) (2 ∷ 1 ∷ 4 ∷ []) 5 ≡ 6)
    × (moved (factors 3 3 2) (1 ∷ 6 ∷ []) 4 ≡ 5)
    × (moved (factors 4 2 3) (1 ∷ 1 ∷ 1 ∷ []) 6 ≡ 0)
unfolding prime_of degree_of reduction_of add mul neg inv
rows_moved = (refl, refl, refl)

orders : (units 3 0 3 ≡ 1 ∷ 3 ∷ 9 ∷ []) × (falling_order (3 ∷ 7 ∷ 5 ∷ []) ≡ 7 ∷ 5 ∷ 3 ∷ [])
orders = (refl, refl)

least_sums : (least_sum 2 (5 ∷ 1 ∷ 3 ∷ []) ≡ 4) × (least_sum 0 (5 ∷ 1 ∷ []) ≡ 0) × (least_sum 4 (5 ∷ 1 ∷ 3 ∷ []) ≡ 9)
least_sums = (refl, refl, refl)
