use Rattle.std.proofs.Common.{rules, ◌≡◌, ◌<◌, get_or, length, subst, sym}
use Rattle.rm_piece.{specs.Sets.{IsMember}, proofs.Fitting.{few_rows}}
use Rattle.rm_tool_standby.proofs.MembersTold.{next-member}
use Rattle.rm_tool_standby.proofs.telling.dump_lines.Goals as goal

pub push_member-requires : goal.push_member-requires
push_member-requires c =
    let m = c.member-item.result in
    let k = c.loop-member.member-index in
    let ms = c.args.standby.now.members in
    let inside : k < length ms = search rules in
    let is : m ≡ get_or ms k m = search rules in
    let member : IsMember c.args.standby.now m = subst (IsMember c.args.standby.now) (sym is) (c.requires.valid.members k m inside) in
    record { few = few_rows m.piece member.piece }

pub loop-member-preserved : goal.loop-member-preserved
loop-member-preserved c =
    let m = c.member-item.result in
    let k = c.loop-member.member-index in
    let ms = c.args.standby.now.members in
    let inside : k < length ms = search rules in
    let is : m ≡ get_or ms k m = search rules in
    next-member ms k m c.loop-member.lines c.push_member.new.lines _ inside is c.in_ok-push_member.ensures c.loop-member.invariant
