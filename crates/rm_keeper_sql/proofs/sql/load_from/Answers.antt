use Rattle.std.proofs.{Common.{true, refl, rules}, lemmas.Result.{IfOk-weaker}}
use Rattle.sqlite.specs.Held.{state}
use Rattle.rm_keeper_sql.proofs.{Kept.{shown_keeps}, Loaded.{reads, reads_none, lists, lists_none}}
use Rattle.rm_keeper_sql.proofs.sql.load_from.Goals as goal

pub returns-clause-reads : goal.returns-clause-reads
returns-clause-reads g c clean =
    let old = c.args.conn.now in
    let sel = c.in_ok-rows.ensures.rows clean in
    let is_open = (shown_keeps (state g.S.Store (record old { in_transaction = true }))
    (state g.S.Store sel.last) _ _ c.in_ok-rows.rows.items refl sel.shown).1 in
    let settled = c.is_autocommit.ensures.settled (search rules) is_open in
    IfOk-weaker c.records_of.result _ _
    (λ rs are. (
      is_open,
      reads g.S.Store c.args.number old (state g.S.Store old).committed c.in_ok-rows.rows.items rs sel (rw c.deref.ensures.value at are)
          (λ none. let yes = c.in_ok-fresh.ensures.is.1 none in let no = c.if-fresh.false in absurd cc) settled,
    ))
    c.records_of.ensures

pub returns-then-fresh-clause-reads : goal.returns-then-fresh-clause-reads
returns-then-fresh-clause-reads g c clean =
    let old = c.args.conn.now in
    let is_open = c.in_ok-probe.ensures.open clean in (
      is_open,
      rw c.new.ensures (reads_none g.S.Store c.args.number old (state g.S.Store old).committed (c.in_ok-fresh.ensures.is.0 c.if-fresh.true)
          (c.is_autocommit.ensures.settled (search rules) is_open)),
    )

pub returns-clause-rows : goal.returns-clause-rows
returns-clause-rows g c clean =
    let old = c.args.conn.now in
    let sel = c.in_ok-rows.ensures.rows clean in
    let is_open = (shown_keeps (state g.S.Store (record old { in_transaction = true }))
    (state g.S.Store sel.last) _ _ c.in_ok-rows.rows.items refl sel.shown).1 in
    let settled = c.is_autocommit.ensures.settled (search rules) is_open in
    IfOk-weaker c.records_of.result _ _
    (λ rs are. lists g.S.Store c.args.number old (state g.S.Store old).committed c.in_ok-rows.rows.items rs sel (rw c.deref.ensures.value at are) settled)
    c.records_of.ensures

pub returns-then-fresh-clause-rows : goal.returns-then-fresh-clause-rows
returns-then-fresh-clause-rows g c clean =
    let old = c.args.conn.now in
    let is_open = c.in_ok-probe.ensures.open clean in
    rw c.new.ensures (lists_none g.S.Store c.args.number old (state g.S.Store old).committed (c.in_ok-fresh.ensures.is.0 c.if-fresh.true)
    (c.is_autocommit.ensures.settled (search rules) is_open))
