-- A program is a sequence of statements, and then the end of its text.
use Rattle.std.proofs.Common.{◌≡◌, List, [], ◌∷◌, ◌++◌, refl, append_assoc, inl, inr}
use Rattle.std.specs.List.{AllByRecursion}
use Rattle.fx_base.proofs.Lists.{each-append}
use Rattle.fx_language.specs.declared.symbol.Symbol.{Symbol}
use Rattle.fx_language.specs.declared.symbol.Symbol.TheVariants.{End}
use Rattle.fx_language.specs.Shapes.{Many, Matches}
use Rattle.fx_language.specs.Grammar.{key, proc, sentence, statement, program}
use Rattle.fx_language.proofs.Derivatives.{parts_of}
use Rattle.fx_language.proofs.StepEnds.{top, flat, flat_cat, program_is_loose}

-- statements, one after another
pub record Sentences (text : List Symbol) : Type 0 where
  pub parts : List (List Symbol)
  pub each : AllByRecursion (Matches sentence) parts
  pub is : text ≡ flat parts

in_step : (parts : List (List Symbol)) → AllByRecursion (Matches statement) parts
    → AllByRecursion (Matches sentence) parts
in_step [] h = tt
in_step (p ∷ parts) h = (inr (inr h.0), in_step parts h.1)

-- a statement or a step, before others
before : (p rest : List Symbol) → Matches top p → Sentences rest → Sentences (p ++ rest)
before p rest (inl s) o =
    record { parts = p ∷ o.parts; each = (inr (inr (inl s)), o.each); is = cc o.is }
before p rest (inr (inl r)) o =
    record { parts = p ∷ o.parts; each = (inr (inr (inr (inl r))), o.each); is = cc o.is }
before p rest (inr (inr (inl q))) o =
    record { parts = p ∷ o.parts; each = (inl q, o.each); is = cc o.is }
before p rest (inr (inr (inr st))) o =
    let s = parts_of proc (Many statement) p st in
    let own = s.3.0 in
    let x = s.0 in
    record {
      parts = x ∷ (own ++ o.parts);
      each = (inr (inl s.2), each-append _ own o.parts (in_step own s.3.1) o.each);
      is =
          cc (append_assoc x (flat own) (flat o.parts), flat_cat own o.parts);
    }

all_before : (parts : List (List Symbol)) → AllByRecursion (Matches top) parts → Sentences (flat parts)
all_before [] h = record { parts = []; each = tt; is = refl }
all_before (p ∷ parts) h = before p _ h.0 (all_before parts h.1)

-- and before the end of the text
pub record IsSequence (text : List Symbol) : Type 0 where
  pub sentences : List Symbol
  pub last : List Symbol
  pub are : Sentences sentences
  pub end : Matches (key End) last
  pub all : text ≡ sentences ++ last

pub sequence_of : (text : List Symbol) → Matches program text → IsSequence text
sequence_of text m =
    let w = program_is_loose text m in
    let o = all_before w.2.0 w.2.1 in
    record {
      sentences = w.0;
      last = w.1;
      are = record { parts = o.parts; each = o.each; is = cc };
      end = w.3;
      all = w.4;
    }
