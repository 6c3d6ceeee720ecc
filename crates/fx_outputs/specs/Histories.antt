-- What a list of items gives, where each item is taken with what those before it gave.
use Rattle.std.specs.Prelude.{List, [], ◌∷◌, ◌++◌}

-- A value for each item, made of the values of those before it and the item; `done` are the values so far.
abbrev pub built : {A B : Type 0} → (List B → A → B) → List B → List A → List B
built f done [] = done
built f done (x ∷ xs) = built f (done ++ f done x ∷ []) xs

-- What each item adds, by those before it; `earlier` are the items so far.
abbrev pub added : {A B : Type 0} → (List A → A → List B) → List A → List A → List B
added f earlier [] = []
added f earlier (x ∷ xs) = f earlier x ++ added f (earlier ++ x ∷ []) xs
