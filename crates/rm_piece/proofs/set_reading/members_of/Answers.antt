use Rattle.std.{specs.List.{flat_map}, proofs.Common.{rules, ◌≡◌, ◌∙◌, ◌∷◌, [], ◌++◌, arith, length, sym, subst, All}}
use Rattle.std.proofs.lemmas.List.{length-append, Elements.{All-push}}
use Rattle.rm_piece.specs.{SetSpelling.{member_bytes}, Sets.{IsMember}}
use Rattle.rm_piece.proofs.SetReading.{all-members, next-member, next-room, turn-members, turn-room}
use Rattle.rm_piece.proofs.set_reading.members_of.Goals as goal

pub returns-in_err-member-clause-only : goal.returns-in_err-member-clause-only
returns-in_err-member-clause-only c ms many are few same =
    let next = next-member c.args.set.now c.loop.members.items ms c.args.bytes.now c.loop.rest.now c.loop.counter c.loop.invariant.count (omega (arith, many, c.loop-test.true)) c.loop.invariant.valid are c.loop.invariant.parts same in
    let room = next-room c.loop.room next c.loop.invariant.room few in
    let none = c.in_err-member.ensures.only next.item (flat_map member_bytes next.others) next.fits room next.spelled in
    search rules

pub loop-preserved : goal.loop-preserved
loop-preserved c =
    let pushed : c.push.new.self.items ≡ c.loop.members.items ++ c.in_ok-member.member ∷ [] = search rules in
    let one = length-append c.loop.members.items (c.in_ok-member.member ∷ []) in
    record {
      parts = turn-members c.loop.members.items c.push.new.self.items c.in_ok-member.member c.args.bytes.now c.loop.rest.now c.in_ok-member.after.now c.loop.invariant.parts c.in_ok-member.ensures.found pushed;
      count = search rules;
      valid = subst (λ xs. All (IsMember c.args.set.now) xs) (sym pushed) (All-push (IsMember c.args.set.now) c.loop.members.items c.in_ok-member.member c.loop.invariant.valid c.in_ok-member.ensures.valid);
      room = turn-room c.loop.members.items c.push.new.self.items c.in_ok-member.member c.loop.room c.loop.invariant.room c.in_ok-member.ensures.room pushed;
    }

pub returns-then-is_empty-clause-only : goal.returns-then-is_empty-clause-only
returns-then-is_empty-clause-only c ms many are few same =
    let number : length c.loop.members.items ≡ length ms = search (rules, many) in
    c.from_vec.ensures ∙ (all-members c.args.set.now c.loop.members.items ms c.args.bytes.now c.loop.rest.now number c.loop.invariant.valid are c.loop.invariant.parts same).0

pub returns-else-is_empty-clause-only : goal.returns-else-is_empty-clause-only
returns-else-is_empty-clause-only c ms many are few same =
    let number : length c.loop.members.items ≡ length ms = search (rules, many) in
    let none : c.loop.rest.now ≡ [] = (all-members c.args.set.now c.loop.members.items ms c.args.bytes.now c.loop.rest.now number c.loop.invariant.valid are c.loop.invariant.parts same).1 in
    let no = c.if-is_empty.false in
    absurd (search rules)
