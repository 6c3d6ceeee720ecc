-- Clear components, told from the groups of class numbers.
use Rattle.std.proofs.Common.{ℕ, ◌≡◌, ◌<◌, ◌&&◌, ◌^◌, Bool, true, false, not, eqb, List, [], length, map, filter}
use Rattle.std.proofs.Common.{get_or, refl, sym, ◌∙◌, ap}
use Rattle.std.specs.List.{range_with_len}
use Rattle.std.proofs.lemmas.List.{get_or-map, length-map}
use Rattle.std.proofs.lemmas.List.Elements.{filter_agree}
use Rattle.fx_base.proofs.Numbers.{eqb_comm}
use Rattle.fx_designs.specs.Aliases.{is_aliased}
use Rattle.fx_designs.specs.Galois.{IsField}
use Rattle.fx_designs.specs.Runs.{is_constant, is_constant_in_blocks}
use Rattle.fx_runs.specs.Runs.{design_of}
use Rattle.fx_vectors.specs.Matrix.{MatrixView}
use Rattle.fx_alias.specs.Classes.{class_of}
use Rattle.fx_alias.specs.ClassNumbers.{number_by}
use Rattle.fx_alias.specs.Clear.{is_clear}
use Rattle.fx_alias.proofs.ClassNumbers.{aliased_number}
use Rattle.fx_alias.proofs.Same.{items_at}

guarded : (constant other x y : Bool) → (constant ≡ false → x ≡ y)
    → (not constant && (other && x)) ≡ (not constant && (other && y))
guarded true other x y h = refl
guarded false other x y h = cc (h refl)

module _ (matrix : MatrixView) (f : IsField matrix.shape.q) (components : List (List ℕ)) (numbers : List ℕ)
    (is : numbers ≡ map (number_by matrix) components) (i : ℕ) (low : i < length components) (u : List ℕ)
    (at : get_or components i u ≡ u) (group : List ℕ)
    (same : group ≡ filter (λ j. eqb (get_or numbers j 0) (get_or numbers i 0)) (range_with_len 0 (length numbers)))
  where
    abbrev q : ℕ
    q = matrix.shape.q

    abbrev rows : List (List ℕ)
    rows = (design_of matrix).rows

    number_is : get_or numbers i 0 ≡ number_by matrix u
    number_is =
        cc (get_or-map (number_by matrix) components i u 0 low)

    -- its class has as many components as its group has places
    class_size : is_constant q u rows ≡ false → length (class_of q rows components u) ≡ length group
    class_size e =
        let p : ℕ → Bool = λ j. eqb (get_or numbers j 0) (number_by matrix u) in
        let item : ℕ → List ℕ = λ j. get_or components j [] in
        ap length
        (filter_agree (is_aliased q rows u) (λ v. eqb (number_by matrix v) (number_by matrix u))
        (λ v. aliased_number q f matrix.shape.m matrix.rows u v e ∙ eqb_comm (number_by matrix u) (number_by matrix v))
        components
        ∙ sym (items_at _ components numbers (number_by matrix u) is))
        ∙ length-map (filter p (range_with_len 0 (length components))) item
        ∙ ap (λ n. length (filter p (range_with_len 0 n)))
        (sym (ap length is ∙ length-map components (number_by matrix)))
        ∙ ap (λ z. length (filter (λ j. eqb (get_or numbers j 0) z) (range_with_len 0 (length numbers))))
        (sym number_is)
        ∙ ap length (sym same)

    pub clear_by_group : is_clear (design_of matrix) components u
        ≡ (not (is_constant q u rows)
        && (not (is_constant_in_blocks q matrix.shape.s (q ^ matrix.shape.t) u rows) && eqb (length group) 1))
    clear_by_group =
        guarded _ _
        _ _ (λ e. ap (λ n. eqb n 1) (class_size e))
