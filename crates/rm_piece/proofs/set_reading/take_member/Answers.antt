use Rattle.std.{specs.{List.{flat_map}, Prelude.{IsTrue}}, proofs.Common.{rules, ◌∙◌, ◌++◌, sym, subst, arith, length}}
use Rattle.rm_piece.{specs.{SetSpelling.{spelled}, Sets.{IsMember}, Spelling.{row_bytes}}, proofs.SetFitting.{member_is}}
use Rattle.rm_piece.proofs.SetReading.{enough, member-apart, member-found, member-long, rows-told, told}
use Rattle.rm_piece.proofs.set_reading.take_member.Goals.{then-room-head-via-then-room-head, then-room-head-via-else-room-head+then-rest-count}
use Rattle.rm_piece.proofs.set_reading.take_member.Goals as goal

pub returns-then-bytes-lt37-clause-only : goal.returns-then-bytes-lt37-clause-only
returns-then-bytes-lt37-clause-only c m x is fits same =
    let long = member-long c.args.set.now m c.args.bytes.now x is same in
    absurd (omega (arith, long, c.if-bytes-lt37.true))

pub returns-in_default-clause-only : goal.returns-in_default-clause-only
returns-in_default-clause-only c m x is fits same =
    absurd (c.in_default.ensures.none m (length (spelled m)) (flat_map row_bytes (spelled m) ++ x) (same ∙ member-apart m x))

pub returns-then-room-head-clause-only : goal.returns-then-room-head-clause-only
returns-then-room-head-clause-only c m x is fits same =
    let one = told c.in-Some.rest.now x c.in-Some.ensures.fits c.in-Some.ensures.count is c.in-Some.ensures.parts same in
    let bytes = enough c.in-Some.rest.now x c.in-Some.ensures.fits c.in-Some.ensures.count is c.in-Some.ensures.parts same in
    let blocks = one.blocks in
    elim c.then-room-head.branch [
      | then-room-head-via-then-room-head w ↦ absurd (omega (arith, fits, blocks, w.if-room-head.true))
      | then-room-head-via-else-room-head+then-rest-count w ↦ absurd (omega (arith, bytes, w.if-rest-count.true))
    ]

pub returns-in_err-rows-clause-only : goal.returns-in_err-rows-clause-only
returns-in_err-rows-clause-only c m x is fits same =
    let rows = rows-told c.in-Some.rest.now x c.in-Some.ensures.fits c.in-Some.ensures.count is c.in-Some.ensures.parts same c.split_at.ensures.front c.split_at.ensures.back c.in_ok-spelled.ensures.rows c.in_ok-spelled.ensures.count c.in_ok-spelled.ensures.fits in
    let none = c.in_err-rows.ensures.only m.piece.rows rows.spread rows.wrote in
    search rules

pub returns-then-is_member-clause-found : goal.returns-then-is_member-clause-found
returns-then-is_member-clause-found c =
    member-found c.in-Some.head c.in-Some.count _ c.args.bytes.now c.in-Some.rest.now _ _ c.in_ok-spelled.spelled c.in_ok-rows.rows
    c.in-Some.ensures.parts c.split_at.ensures.front c.split_at.ensures.back
    c.in_ok-spelled.ensures.rows c.in_ok-spelled.ensures.count c.in_ok-rows.ensures.found

pub returns-then-is_member-clause-only : goal.returns-then-is_member-clause-only
returns-then-is_member-clause-only c m x is fits same =
    let one = told c.in-Some.rest.now x c.in-Some.ensures.fits c.in-Some.ensures.count is c.in-Some.ensures.parts same in
    let rows = rows-told c.in-Some.rest.now x c.in-Some.ensures.fits c.in-Some.ensures.count is c.in-Some.ensures.parts same c.split_at.ensures.front c.split_at.ensures.back c.in_ok-spelled.ensures.rows c.in_ok-spelled.ensures.count c.in_ok-spelled.ensures.fits in
    (member_is c.in-Some.ensures.of is.of one (c.in_ok-rows.ensures.only m.piece.rows rows.spread rows.wrote), rows.ends)

pub returns-clause-only : goal.returns-clause-only
returns-clause-only c m x is fits same =
    let one = told c.in-Some.rest.now x c.in-Some.ensures.fits c.in-Some.ensures.count is c.in-Some.ensures.parts same in
    let rows = rows-told c.in-Some.rest.now x c.in-Some.ensures.fits c.in-Some.ensures.count is c.in-Some.ensures.parts same c.split_at.ensures.front c.split_at.ensures.back c.in_ok-spelled.ensures.rows c.in_ok-spelled.ensures.count c.in_ok-spelled.ensures.fits in
    let member = member_is c.in-Some.ensures.of is.of one (c.in_ok-rows.ensures.only m.piece.rows rows.spread rows.wrote) in
    let yes : IsTrue c.is_member.result = c.is_member.ensures.1 (subst (IsMember c.args.set.now) (sym member) is) in
    let no = c.if-is_member.false in
    absurd cc
