-- Lists that are appended part by part, and prefixes of them where memory runs out on the way.
use Rattle.std.proofs.Common.{◌≡◌, ℕ, ◌+◌, ◌<◌, List, [], ◌∷◌, ◌++◌, length, take, drop, get_or, suc, Result, Ok, Err}
use Rattle.std.proofs.Common.{OnErr, refl, sym, subst, ◌∙◌, append_assoc, append-nil}
use Rattle.std.proofs.lemmas.List.{take_more, take-append-drop}
use Rattle.std.proofs.Math.Seq.{drop-cons}
use Rattle.fx_base.specs.Writing.{HoldsPart}

pub at_err : {T E P : Type 0} (r : Result T E) → P → OnErr r P
at_err (Ok x) h = tt
at_err (Err e) h = h

module _ {T : Type 0} where
  -- nothing was appended
  pub nothing : (old new more : List T) → new ≡ old → HoldsPart old new more
  nothing old new more same = record { part = []; left = more; front = refl; held = same ∙ sym (append-nil old) }

  -- a prefix of the first part was appended
  pub in_first : (old new first rest : List T) → HoldsPart old new first → HoldsPart old new (first ++ rest)
  in_first old new first rest h = record {
    part = h.part;
    left = h.left ++ rest;
    front = cc (append_assoc h.part h.left rest, h.front);
    held = h.held;
  }

  -- the first part was appended, and then a prefix of the rest
  pub past_first : (old mid new first rest : List T) → mid ≡ old ++ first → HoldsPart mid new rest
      → HoldsPart old new (first ++ rest)
  past_first old mid new first rest all h = record {
    part = first ++ h.part;
    left = h.left;
    front = cc (append_assoc first h.part h.left, h.front);
    held = cc (h.held, all, append_assoc old first h.part);
  }

-- the text of a list, which is the texts of its items one after another
module _ {A T : Type 0} (text : List A → List T) (joins : (xs ys : List A) → text (xs ++ ys) ≡ text xs ++ text ys) where
  -- the items before one, and that one
  pub one_more : (xs : List A) (i : ℕ) (x : A) (old mid new : List T) → i < length xs → x ≡ get_or xs i x
      → mid ≡ old ++ text (take i xs) → new ≡ mid ++ text (x ∷ []) → new ≡ old ++ text (take (i + 1) xs)
  one_more xs i x old mid new there is before here =
      cc (
        here,
        before,
        append_assoc old (text (take i xs)) (text (x ∷ [])),
        joins (take i xs) (x ∷ []),
        is,
        take_more xs i x there,
      )

  pub split_at : (xs : List A) (i : ℕ) (x : A) → i < length xs → x ≡ get_or xs i x
      → text (take i xs) ++ (text (x ∷ []) ++ text (drop (suc i) xs)) ≡ text xs
  split_at xs i x there is =
      cc (
        joins (x ∷ []) (drop (suc i) xs),
        is,
        drop-cons xs i x there,
        joins (take i xs) (drop i xs),
        take-append-drop i xs,
      )

  -- the items before one, and a prefix of the text of that one
  pub in_item : (xs : List A) (i : ℕ) (x : A) (old mid new : List T) → i < length xs → x ≡ get_or xs i x
      → mid ≡ old ++ text (take i xs) → HoldsPart mid new (text (x ∷ [])) → HoldsPart old new (text xs)
  in_item xs i x old mid new there is before h =
      subst (HoldsPart old new) (split_at xs i x there is)
      (past_first old mid new (text (take i xs)) _ before (in_first mid new (text (x ∷ [])) (text (drop (suc i) xs)) h))
