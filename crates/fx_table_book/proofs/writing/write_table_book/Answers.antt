use Rattle.std.proofs.Common.{◌≡◌, ◌++◌, List, ℕ, ◌∙◌, append_assoc}
use Rattle.fx_base.proofs.Held.{at_err, in_first, nothing, past_first}
use Rattle.fx_table_book.proofs.writing.write_table_book.Goals as goal

joined : (old title base order key entries end : List ℕ)
    → (((((old ++ title) ++ base) ++ order) ++ key) ++ entries) ++ end
    ≡ old ++ (title ++ (base ++ (order ++ (key ++ (entries ++ end)))))
joined old title base order key entries end =
    cc (
      append_assoc ((((old ++ title) ++ base) ++ order) ++ key) entries end,
      append_assoc
          (((old ++ title) ++ base) ++ order) key (entries ++ end),
      append_assoc ((old ++ title) ++ base) order
          (key ++ (entries ++ end)),
      append_assoc (old ++ title) base (order ++ (key ++ (entries ++ end))),
      append_assoc
          old title (base ++ (order ++ (key ++ (entries ++ end)))),
    )

pub returns-clause-ok : goal.returns-clause-ok
returns-clause-ok c =
    let book = c.args.book.now in
    c.in_ok-put-2.ensures.ok
    ∙ (rw (
      c.in_ok-put_entries.ensures.ok,
      c.in_ok-put_key.ensures.ok,
      c.in_ok-put_order.ensures.ok,
      c.in_ok-put_base.ensures.ok,
      c.in_ok-put.ensures.ok,
    )
    (joined c.args.out.now _ _ _
    _ _ _))

pub returns-in_err-put_base-clause-err : goal.returns-in_err-put_base-clause-err
returns-in_err-put_base-clause-err c =
    at_err c.from_residual-in_err-put_base.result
    (past_first _ _ _ _ _ c.in_ok-put.ensures.ok
    (in_first _ _ _ _ c.in_err-put_base.ensures.err))

pub returns-in_err-put_order-clause-err : goal.returns-in_err-put_order-clause-err
returns-in_err-put_order-clause-err c =
    at_err c.from_residual-in_err-put_order.result
    (past_first _ _ _ _ _ c.in_ok-put.ensures.ok
    (past_first _ _ _ _ _ c.in_ok-put_base.ensures.ok
    (in_first _ _ _ _ c.in_err-put_order.ensures.err)))

pub returns-in_err-put_key-clause-err : goal.returns-in_err-put_key-clause-err
returns-in_err-put_key-clause-err c =
    let book = c.args.book.now in
    at_err c.from_residual-in_err-put_key.result
    (past_first _ _ _ _ _ c.in_ok-put.ensures.ok
    (past_first _ _ _ _ _ c.in_ok-put_base.ensures.ok
    (past_first _ _ _ _ _ c.in_ok-put_order.ensures.ok
    (in_first _ _ _ _ c.in_err-put_key.ensures.err))))

pub returns-in_err-put_entries-clause-err : goal.returns-in_err-put_entries-clause-err
returns-in_err-put_entries-clause-err c =
    let book = c.args.book.now in
    at_err c.from_residual-in_err-put_entries.result
    (past_first _ _ _ _ _ c.in_ok-put.ensures.ok
    (past_first _ _ _ _ _ c.in_ok-put_base.ensures.ok
    (past_first _ _ _ _ _ c.in_ok-put_order.ensures.ok
    (past_first _ _ _ _ _ c.in_ok-put_key.ensures.ok
    (in_first _ _ _ _ c.in_err-put_entries.ensures.err)))))

pub returns-in_err-put-2-clause-err : goal.returns-in_err-put-2-clause-err
returns-in_err-put-2-clause-err c =
    let book = c.args.book.now in
    at_err c.from_residual-in_err-put-2.result
    (past_first _ _ _ _ _ c.in_ok-put.ensures.ok
    (past_first _ _ _ _ _ c.in_ok-put_base.ensures.ok
    (past_first _ _ _ _ _ c.in_ok-put_order.ensures.ok
    (past_first _ _ _ _ _ c.in_ok-put_key.ensures.ok
    (past_first _ _ _ _ _ c.in_ok-put_entries.ensures.ok
    (nothing _ _ _ c.in_err-put-2.ensures.err))))))
