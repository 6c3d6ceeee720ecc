-- What a walk has done, and what is left.
use Rattle.std.proofs.Common.{◌≡◌, ℕ, ◌<◌, ◌≤◌, ◌+◌, Bool, false, List, [], ◌++◌, map, length, Some, sym, ap, ◌∙◌}
use Rattle.std.proofs.Common.{append-nil, append_assoc, refl}
use Rattle.std.specs.List.{list_any, find}
use Rattle.std.proofs.lemmas.List.{map-append}
use Rattle.fx_designs.specs.Problems.{Problem}
use Rattle.fx_designs.specs.Nodes.{Mark}
use Rattle.fx_laws.specs.Trees.{is_tree_design}
use Rattle.fx_laws.specs.Walks.{through}
use Rattle.fx_laws.proofs.Through.{any-append}
use Rattle.fx_tree.specs.Search.{search_tree, search_mark}
use Rattle.fx_search.specs.Ends.{IsFound, IsClosed, IsSpent}
use Rattle.fx_search.specs.LotWalks.{candidates_of, IsDoneTo}
use Rattle.fx_search.specs.declared.walk.End.TheVariants as end
use Rattle.fx_search.proofs.Steps.{part_end}

module _ (p : Problem) (limit : ℕ) where
  abbrev D : List ℕ → Bool
  D = is_tree_design (search_tree p)

  abbrev all : List (List ℕ)
  all = candidates_of p

  -- the same where what is left is said in other words
  abbrev pub done-same : (xs ys : List (List ℕ)) (list : List Mark) → xs ≡ ys → IsDoneTo p limit xs list
      → IsDoneTo p limit ys list
  done-same xs ys list e h = record {
    done = h.done;
    whole = h.whole ∙ ap (λ (l : List (List ℕ)). h.done ++ l) e;
    none = h.none;
    marks = h.marks;
    fits = h.fits;
  }

  module _ (xs ys : List (List ℕ)) (now : List Mark) (h : IsDoneTo p limit (xs ++ ys) now) where
    -- candidates without a design are done
    abbrev pub done-more : list_any D xs ≡ false → (new : List Mark) → new ≡ now ++ map (search_mark p) xs
        → length new ≤ limit
        → IsDoneTo p limit ys new
    done-more none new more fits = record {
      done = h.done ++ xs;
      whole = h.whole ∙ sym (append_assoc h.done xs ys);
      none = any-append D h.done xs h.none none;
      marks = more ∙ ap (λ l. l ++ map (search_mark p) xs) h.marks ∙ sym (map-append (search_mark p) h.done xs);
      fits = fits;
    }

    -- they are more than the limit allows
    pub done-past : limit < length now + length (through D xs) → IsSpent (search_tree p) limit all []
    done-past past =
        part_end _ _ limit false all h.done xs ys [] [] now [] [] h.whole h.none h.marks
        end.Spent (λ e. cc e) (record { more = past })

    -- the first of them that is a design
    pub done-found : (left : List ℕ) → find D xs ≡ Some left → (new : List Mark)
        → new ≡ now ++ map (search_mark p) (through D xs) → length new ≤ limit
        → IsFound (search_tree p) (search_mark p) limit all [] new left
    done-found left first new more fits =
        part_end _ _ limit false all h.done xs ys [] [] now new left h.whole h.none h.marks
        end.Found (λ e. cc e) (record { first = first; marks = more; fits = fits })

  -- nothing is left
  pub done-all : (now : List Mark) → IsDoneTo p limit [] now
      → IsClosed (search_tree p) (search_mark p) limit all [] [] now []
  done-all now h =
      let whole = h.whole ∙ append-nil h.done in
      record {
        none = cc;
        marks = cc;
        fits = h.fits;
        back = refl;
      }
