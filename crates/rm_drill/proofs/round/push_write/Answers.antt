use Rattle.std.{specs.String.{string_bytes}, proofs.Common.{◌≡◌, ◌++◌, ◌∙◌, ap}}
use Rattle.rm_drill.specs.Script.{draw_of, next_number, statement_of, write_text}
use Rattle.rm_drill.proofs.round.push_write.Goals as goal

pub returns-clause-text : goal.returns-clause-text
unfolding write_text
returns-clause-text c =
    let x = c.args.number in
    let first : c.draw_at-a.result ≡ draw_of (next_number x) = c.draw_at-a.ensures ∙ ap draw_of c.next_of-first.ensures in
    let second : c.draw_at-b.result ≡ draw_of (next_number (next_number x)) = c.draw_at-b.ensures ∙ ap draw_of (c.next_of-second.ensures ∙ ap next_number c.next_of-first.ensures) in
    c.in_ok-push_statement.ensures
    ∙ ap (λ a. string_bytes c.args.out.now ++ statement_of a c.draw_at-b.result c.args.round c.args.k) first
    ∙ ap (λ b. string_bytes c.args.out.now ++ statement_of (draw_of (next_number x)) b c.args.round c.args.k) second
