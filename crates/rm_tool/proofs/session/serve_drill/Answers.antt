use Rattle.std.proofs.Common.{length, refl, rules}
use Rattle.rm_tool.{specs.declared.drill.Summary.{Summary}, proofs.Drilling.{drill-shows, ends-in-line}}
use Rattle.rm_tool.proofs.session.serve_drill.Goals as goal

pub returns-in_err-write_line-clause-sink : goal.returns-in_err-write_line-clause-sink
returns-in_err-write_line-clause-sink g c = λ is.
    let line : Summary = record { number = c.args.number; statements = length c.args.statements.now; tally = c.in_ok-tally.tally; next_scn = c.next_scn.result; objects = c.objects.result } in
    ends-in-line line c.in_ok-tally.ensures.ok refl (search rules) c.next_scn.ensures c.objects.ensures _ _ c.in_err-write_line.ensures.front

pub returns-clause-ok : goal.returns-clause-ok
returns-clause-ok g c =
    let line : Summary = record { number = c.args.number; statements = length c.args.statements.now; tally = c.in_ok-tally.tally; next_scn = c.next_scn.result; objects = c.objects.result } in
    drill-shows line c.in_ok-tally.ensures.ok refl (search rules) c.next_scn.ensures c.objects.ensures _ _ c.has_refused.result c.has_refused.ensures c.in_ok-write_line.ensures.ok
