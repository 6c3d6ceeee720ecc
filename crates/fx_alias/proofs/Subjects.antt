-- The rules from a row on.
use Rattle.std.proofs.Common.{ℕ, ◌≡◌, ◌<◌, ◌≤◌, ◌+◌, ◌^◌, zero, suc, List, [], ◌∷◌, ◌++◌, length, drop, get_or}
use Rattle.std.proofs.Common.{drop-cons, append_assoc, refl, ◌∙◌, Bool, true, false, arith}
use Rattle.std.specs.Prelude.{◌==◌, slice_index, slice_index_or}
use Rattle.std.proofs.lemmas.Bool.{cond-true, cond-false}
use Rattle.fx_designs.specs.Galois.{digits}
use Rattle.fx_alias.specs.Rules.{Subject, introduction, rule_lines, rule_of, subjects}

-- the subjects from row k on, which is a block row or not
pub subjects-from : (factors blocks : List (List ℕ)) (k : ℕ) (is_block : Bool) → k < length factors + length blocks
    → (is_block ≡ true → length factors ≤ k) → (is_block ≡ false → k < length factors)
    → drop k (subjects factors blocks)
    ≡ record { name = get_or (factors ++ blocks) k []; is_block = is_block } ∷ drop (suc k) (subjects factors blocks)
subjects-from [] [] k b h is not = absurd (omega arith)
subjects-from [] (name ∷ blocks) zero true h is not = refl
subjects-from [] (name ∷ blocks) zero false h is not = absurd (omega (arith, not refl))
subjects-from [] (name ∷ blocks) (suc k) b h is not =
    subjects-from [] blocks k b (omega arith) (λ e. omega arith) (λ e. absurd (omega (arith, not e)))
subjects-from (name ∷ factors) blocks zero true h is not = absurd (omega (arith, is refl))
subjects-from (name ∷ factors) blocks zero false h is not = refl
subjects-from (name ∷ factors) blocks (suc k) b h is not =
    subjects-from factors blocks k b (omega arith) (λ e. omega (arith, is e)) (λ e. omega (arith, not e))

module _ (q m : ℕ) (introduced factors blocks : List (List ℕ)) (rows : List ℕ) (k row : ℕ) (name : List ℕ)
    (is_block : Bool)
    (long : length rows ≡ length factors + length blocks) (below : k < length rows) (row_is : row ≡ slice_index rows k)
    (name_is : name ≡ slice_index_or (factors ++ blocks) k [])
    (block : is_block ≡ true → length factors ≤ k) (factor : is_block ≡ false → k < length factors)
  where
    abbrev subject : Subject
    subject = record { name = name; is_block = is_block }

    abbrev later : List Subject
    later = drop (suc k) (subjects factors blocks)

    from-row : rule_lines q m introduced (drop k (subjects factors blocks)) (drop k rows)
        ≡ rule_lines q m introduced (subject ∷ later) (row ∷ drop (suc k) rows)
    from-row =
        cc (subjects-from factors blocks k is_block (omega arith) block factor, drop-cons rows k 0 below)

    -- the rules from row k on, where it introduces a run index
    pub introducing-rule : (row == q ^ length introduced) ≡ true
        → rule_lines q m introduced (drop k (subjects factors blocks)) (drop k rows)
        ≡ introduction subject (length introduced + 1)
        ++ rule_lines q m (introduced ++ name ∷ []) later (drop (suc k) rows)
    introducing-rule is = from-row ∙ cond-true _ _ _ is

    -- and where it does not
    pub other-rule : (row == q ^ length introduced) ≡ false
        → rule_lines q m introduced (drop k (subjects factors blocks)) (drop k rows)
        ≡ rule_of introduced name (digits q m row) ++ rule_lines q m introduced later (drop (suc k) rows)
    other-rule is = from-row ∙ cond-false _ _ _ is

-- the lines that remain after the first of them
pub remaining-lines : (before first after old out all : List ℕ) → before ≡ first ++ after → out ≡ old ++ first
    → old ++ before ≡ all → out ++ after ≡ all
remaining-lines before first after old out all next listed so_far =
    cc (append_assoc old first after)
