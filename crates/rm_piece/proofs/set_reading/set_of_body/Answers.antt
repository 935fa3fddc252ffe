use Rattle.std.{specs.{Prelude.{IsTrue}, List.{AllPairs}}, proofs.Common.{rules, ◌∙◌, arith, sym, subst}}
use Rattle.rm_piece.{specs.Sets.{IsBeforeMember}, proofs.SetReading.{members-told, set-found, set-is, set-long, set-told}}
use Rattle.rm_piece.proofs.set_reading.set_of_body.Goals as goal

pub returns-then-body-lt25-clause-only : goal.returns-then-body-lt25-clause-only
returns-then-body-lt25-clause-only c s is same = let long = set-long s c.args.body.now same in absurd (omega (arith, long, c.if-body-lt25.true))

pub returns-then-count-gt-MOST_FILES-clause-only : goal.returns-then-count-gt-MOST_FILES-clause-only
returns-then-count-gt-MOST_FILES-clause-only c s is same =
    let one = set-told c.in-Some.rest.now c.in-Some.ensures.fits c.in-Some.ensures.count is c.in-Some.ensures.parts same in
    let count = one.count in
    let few = is.few in
    absurd (omega arith)

pub returns-in_err-members-clause-only : goal.returns-in_err-members-clause-only
returns-in_err-members-clause-only c s is same =
    let one = set-told c.in-Some.rest.now c.in-Some.ensures.fits c.in-Some.ensures.count is c.in-Some.ensures.parts same in
    let are = members-told c.in-Some.rest.now c.in-Some.ensures.fits c.in-Some.ensures.count is c.in-Some.ensures.parts same in
    let none = c.in_err-members.ensures.only s.members (sym one.count) are is.blocks one.rest in
    search rules

pub returns-then-members_ascend-clause-found : goal.returns-then-members_ascend-clause-found
returns-then-members_ascend-clause-found c =
    set-found c.in-Some.head c.in-Some.count c.args.body.now c.in-Some.rest.now c.in_ok-members.members c.in-Some.ensures.parts c.in_ok-members.ensures.found c.in_ok-members.ensures.count

pub returns-then-members_ascend-clause-only : goal.returns-then-members_ascend-clause-only
returns-then-members_ascend-clause-only c s is same =
    let one = set-told c.in-Some.rest.now c.in-Some.ensures.fits c.in-Some.ensures.count is c.in-Some.ensures.parts same in
    let are = members-told c.in-Some.rest.now c.in-Some.ensures.fits c.in-Some.ensures.count is c.in-Some.ensures.parts same in
    set-is c.in-Some.rest.now c.in-Some.ensures.fits c.in-Some.ensures.count is c.in-Some.ensures.parts same (c.in_ok-members.ensures.only s.members (sym one.count) are is.blocks one.rest)

pub returns-clause-only : goal.returns-clause-only
returns-clause-only c s is same =
    let one = set-told c.in-Some.rest.now c.in-Some.ensures.fits c.in-Some.ensures.count is c.in-Some.ensures.parts same in
    let are = members-told c.in-Some.rest.now c.in-Some.ensures.fits c.in-Some.ensures.count is c.in-Some.ensures.parts same in
    let members = c.in_ok-members.ensures.only s.members (sym one.count) are is.blocks one.rest in
    let yes : IsTrue c.members_ascend.result = c.members_ascend.ensures.1 (subst (AllPairs IsBeforeMember) (sym (c.as_slice.ensures ∙ members)) is.ascend) in
    let no = c.if-members_ascend.false in
    absurd cc
