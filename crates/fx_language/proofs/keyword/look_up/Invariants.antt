use Rattle.std.proofs.Common.{◌≡◌, map, drop}
use Rattle.fx_language.specs.Keywords.{listed_in}
use Rattle.fx_language.specs.Spellings.{spelling_row}
use Rattle.fx_language.proofs.keyword.look_up.Given as goal

abbrev pub invariant-loop-spelling : goal.invariant-loop-spelling
invariant-loop-spelling l =
    listed_in (map spelling_row l.spellings) l.word
    ≡ listed_in (map spelling_row (drop l.spelling-index l.spellings)) l.word
