use Rattle.std.proofs.Common.{ℕ, List, ◌++◌, ◌≤◌, ◌∙◌, [], ◌∷◌, length, sym, ap, ap₂, subst, append-nil}
use Rattle.fx_base.specs.Acts.{WholeFile}
use Rattle.fx_base.specs.Pieces.{joined}
use Rattle.fx_table_book.specs.Texts.{book_text}
use Rattle.fx_program.proofs.TableNames.{short_name}
use Rattle.fx_program.proofs.tabulating.file_of.Goals as goal

pub returns : goal.returns
returns c =
    let text = c.in_ok-write_table_book.ensures.ok ∙ ap (λ (l : List ℕ). l ++ book_text c.args.book.now) c.new-text.ensures in
    let pieces = c.in_ok-push.ensures.ok ∙ ap (λ (l : List (List ℕ)). l ++ c.write_table_book.new.out ∷ []) c.new-pieces.ensures in (
      ap₂ (λ (n t : List ℕ). WholeFile n t ∷ []) c.book_name.ensures (ap joined pieces ∙ append-nil _ ∙ text),
      subst (λ (l : List ℕ). (1 ≤ length l) × (length l ≤ 64)) (sym c.book_name.ensures)
          (short_name c.args.base c.requires c.args.order),
    )
