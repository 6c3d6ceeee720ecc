use Rattle.std.proofs.Common.{◌≡◌, ◌+◌, ◌-◌, ◌∙◌, ap, sym, ◌∷◌, [], drop, take, take_all, arith}
use Rattle.std.proofs.Math.Nat.{sub-zero}
use Rattle.std.proofs.lemmas.Bool.{cond-true, cond-false}
use Rattle.std.proofs.lemmas.List.{length-drop}
use Rattle.fx_book.specs.Parts.{split}
use Rattle.fx_book.specs.Heads.{shape_of}
use Rattle.fx_book.proofs.Splits.{some_parts}
use Rattle.fx_book.proofs.Lines.{no_shape}
use Rattle.fx_book.proofs.head.shape_of.Goals as goal

pub returns-then-word-line-clause-shape : goal.returns-then-word-line-clause-shape
returns-then-word-line-clause-shape c =
    sym (ap (shape_of c.args.version) (c.next_stop-word.ensures.last c.if-word-line.true))

pub returns-then-q-line-clause-shape : goal.returns-then-q-line-clause-shape
returns-then-q-line-clause-shape c =
    let line = c.args.line.now in
    let word_end = c.next_stop-word.result in
    let word = take word_end line in
    let cut_word : split 32 line ≡ word ∷ split 32 (drop (word_end + 1) line) =
    cc (c.next_stop-word.ensures.more (omega arith), sub-zero word_end) in
    sym (ap (shape_of c.args.version) (cut_word ∙ ap (λ r. word ∷ r) (c.next_stop-q.ensures.last c.if-q-line.true)))

pub returns-then-m-line-clause-shape : goal.returns-then-m-line-clause-shape
returns-then-m-line-clause-shape c =
    let line = c.args.line.now in
    let word_end = c.next_stop-word.result in
    let word = take word_end line in
    let cut_word : split 32 line ≡ word ∷ split 32 (drop (word_end + 1) line) =
    cc (c.next_stop-word.ensures.more (omega arith), sub-zero word_end) in
    let q_end = c.next_stop-q.result in
    let q = take (q_end - (word_end + 1)) (drop (word_end + 1) line) in
    let cut_q =
    c.next_stop-q.ensures.more (omega arith) in
    sym (ap (shape_of c.args.version)
    (cut_word ∙ ap (λ r. word ∷ r) (cut_q ∙ ap (λ r. q ∷ r) (c.next_stop-m.ensures.last c.if-m-line.true))))

pub returns-then-s-line-clause-shape : goal.returns-then-s-line-clause-shape
returns-then-s-line-clause-shape c =
    let line = c.args.line.now in
    let word_end = c.next_stop-word.result in
    let word = take word_end line in
    let cut_word : split 32 line ≡ word ∷ split 32 (drop (word_end + 1) line) =
    cc (c.next_stop-word.ensures.more (omega arith), sub-zero word_end) in
    let q_end = c.next_stop-q.result in
    let q = take (q_end - (word_end + 1)) (drop (word_end + 1) line) in
    let cut_q =
    c.next_stop-q.ensures.more (omega arith) in
    let m_end = c.next_stop-m.result in
    let m = take (m_end - (q_end + 1)) (drop (q_end + 1) line) in
    let cut_m =
    c.next_stop-m.ensures.more (omega arith) in
    sym (ap (shape_of c.args.version)
    (cut_word ∙ ap (λ r. word ∷ r)
    (cut_q ∙ ap (λ r. q ∷ r) (cut_m ∙ ap (λ r. m ∷ r) (c.next_stop-s.ensures.last c.if-s-line.true)))))

pub returns-then-t-line-clause-shape : goal.returns-then-t-line-clause-shape
returns-then-t-line-clause-shape c =
    let line = c.args.line.now in
    let word_end = c.next_stop-word.result in
    let word = take word_end line in
    let cut_word : split 32 line ≡ word ∷ split 32 (drop (word_end + 1) line) =
    cc (c.next_stop-word.ensures.more (omega arith), sub-zero word_end) in
    let q_end = c.next_stop-q.result in
    let q = take (q_end - (word_end + 1)) (drop (word_end + 1) line) in
    let cut_q =
    c.next_stop-q.ensures.more (omega arith) in
    let m_end = c.next_stop-m.result in
    let m = take (m_end - (q_end + 1)) (drop (q_end + 1) line) in
    let cut_m =
    c.next_stop-m.ensures.more (omega arith) in
    let s_end = c.next_stop-s.result in
    let s = take (s_end - (m_end + 1)) (drop (m_end + 1) line) in
    let cut_s =
    c.next_stop-s.ensures.more (omega arith) in
    let t_end = c.next_stop-t.result in
    let t = take (t_end - (s_end + 1)) (drop (s_end + 1) line) in
    let cut_t =
    c.next_stop-t.ensures.more c.if-t-line.true in
    cc (no_shape c.args.version
    word q m s t _ (some_parts 32 (drop (t_end + 1) line)))

pub returns-then-not-is_word-clause-shape : goal.returns-then-not-is_word-clause-shape
returns-then-not-is_word-clause-shape c =
    let line = c.args.line.now in
    let word_end = c.next_stop-word.result in
    let word = take word_end line in
    let cut_word : split 32 line ≡ word ∷ split 32 (drop (word_end + 1) line) =
    cc (c.next_stop-word.ensures.more (omega arith), sub-zero word_end) in
    let q_end = c.next_stop-q.result in
    let q = take (q_end - (word_end + 1)) (drop (word_end + 1) line) in
    let cut_q =
    c.next_stop-q.ensures.more (omega arith) in
    let m_end = c.next_stop-m.result in
    let m = take (m_end - (q_end + 1)) (drop (q_end + 1) line) in
    let cut_m =
    c.next_stop-m.ensures.more (omega arith) in
    let s_end = c.next_stop-s.result in
    let s = take (s_end - (m_end + 1)) (drop (m_end + 1) line) in
    let cut_s =
    c.next_stop-s.ensures.more (omega arith) in
    sym (ap (shape_of c.args.version)
    (cut_word ∙ ap (λ r. word ∷ r)
    (cut_q ∙ ap (λ r. q ∷ r)
    (cut_m ∙ ap (λ r. m ∷ r)
    (cut_s ∙ ap (λ r. s ∷ r)
    (c.next_stop-t.ensures.last (omega arith))))))
    ∙ cond-false _ _ _ (sym c.is_word.ensures ∙ c.if-not-is_word.true))

pub returns-clause-shape : goal.returns-clause-shape
returns-clause-shape c =
    let line = c.args.line.now in
    let word_end = c.next_stop-word.result in
    let word = take word_end line in
    let cut_word : split 32 line ≡ word ∷ split 32 (drop (word_end + 1) line) =
    cc (c.next_stop-word.ensures.more (omega arith), sub-zero word_end) in
    let q_end = c.next_stop-q.result in
    let q = take (q_end - (word_end + 1)) (drop (word_end + 1) line) in
    let cut_q =
    c.next_stop-q.ensures.more (omega arith) in
    let m_end = c.next_stop-m.result in
    let m = take (m_end - (q_end + 1)) (drop (q_end + 1) line) in
    let cut_m =
    c.next_stop-m.ensures.more (omega arith) in
    let s_end = c.next_stop-s.result in
    let s = take (s_end - (m_end + 1)) (drop (m_end + 1) line) in
    let cut_s =
    c.next_stop-s.ensures.more (omega arith) in
    let t_end = c.next_stop-t.result in
    let t = take (t_end - (s_end + 1)) (drop (s_end + 1) line) in
    let cut_t : split 32 (drop (s_end + 1) line) ≡ t ∷ [] =
    cc (
      c.next_stop-t.ensures.last (omega arith),
      take_all (t_end - (s_end + 1)) (drop (s_end + 1) line)
          (omega (arith, length-drop (s_end + 1) line)),
    ) in
    (rw (c.number.ensures, c.number-2.ensures, c.number-3.ensures, c.number-4.ensures) at c.shape_from.ensures.shape)
    ∙ sym (ap (shape_of c.args.version)
    (cut_word ∙ ap (λ r. word ∷ r)
    (cut_q ∙ ap (λ r. q ∷ r) (cut_m ∙ ap (λ r. m ∷ r) (cut_s ∙ ap (λ r. s ∷ r) cut_t))))
    ∙ cond-true _ _ _ (sym c.is_word.ensures ∙ c.if-not-is_word.false))
