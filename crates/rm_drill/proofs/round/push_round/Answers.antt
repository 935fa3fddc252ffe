use Rattle.std.{specs.String.{string_bytes}, proofs.{Common.{◌++◌, ◌∙◌, ap}, lemmas.List.{append_assoc}}}
use Rattle.rm_drill.specs.Script.{round_end, round_text, writes_text}
use Rattle.rm_drill.proofs.round.push_round.Goals as goal

pub returns-clause-text : goal.returns-clause-text
unfolding round_text
returns-clause-text c =
    let writes = writes_text c.args.number c.args.round 1000 in
    let rest = writes ++ round_end c.args.round in
    c.in_ok-push_end.ensures
    ∙ ap (λ text. text ++ round_end c.args.round) c.in_ok-after.ensures.text
    ∙ append_assoc (string_bytes c.push_str.new.self) writes (round_end c.args.round)
    ∙ ap (λ text. text ++ rest) c.in_ok-push_str.ensures.bytes
    ∙ append_assoc (string_bytes c.args.out.now) _ rest
