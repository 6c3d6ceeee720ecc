-- Lists that are held in pieces.
use Rattle.std.proofs.Common.{◌≡◌, List, [], ◌∷◌, ◌++◌, append_assoc, refl}
use Rattle.fx_base.specs.Pieces.{joined}

pub joined-append : {T : Type 0} (xs ys : List (List T)) → joined (xs ++ ys) ≡ joined xs ++ joined ys
joined-append [] ys = refl
joined-append (x ∷ xs) ys = cc (joined-append xs ys, append_assoc x (joined xs) (joined ys))
