use Rattle.std.proofs.Common.{◌≡◌, ◌∙◌, sym, rules, arith, length, ◌-◌, true, false}
use Rattle.rm_lang_grammar.specs.{Forms.{command_in}, Blocks.{goes_on}}
use Rattle.rm_lang_grammar.proofs.Manys.{many_first, many_step, many_stops, many_ends, many_err}
use Rattle.rm_lang_reading.specs.Language.{inner_forms}
use Rattle.rm_lang_reading.proofs.run.all_inner.Goals as goal

pub loop-init : goal.loop-init
loop-init c = rw c.new-found.ensures.items (many_first goes_on (command_in inner_forms) (length c.args.tokens.now) c.args.tokens.now)

pub returns-then-not-goes_on : goal.returns-then-not-goes_on
returns-then-not-goes_on c =
    let none : goes_on c.loop.rest.now ≡ false = search rules in
    sym c.loop.invariant ∙ rw c.from_vec.ensures (many_stops goes_on (command_in inner_forms) _ c.loop.rest.now c.loop.found.items none)

pub returns-then-goes_on : goal.returns-then-goes_on
returns-then-goes_on c =
    let some : goes_on c.loop.rest.now ≡ true = search rules in
    let left : length c.args.tokens.now - c.loop.counter ≡ 0 = omega (arith, c.loop-test.false) in
    sym c.loop.invariant ∙ many_ends goes_on (command_in inner_forms) _ c.loop.rest.now c.loop.found.items left some

pub returns : goal.returns
returns c =
    let none : goes_on c.loop.rest.now ≡ false = search rules in
    sym c.loop.invariant ∙ rw c.from_vec-2.ensures (many_stops goes_on (command_in inner_forms) _ c.loop.rest.now c.loop.found.items none)

pub returns-in-Err : goal.returns-in-Err
returns-in-Err c =
    let some : goes_on c.loop.rest.now ≡ true = search rules in
    many_err goes_on (command_in inner_forms) (length c.args.tokens.now) c.loop.counter c.loop.rest.now c.loop.found.items c.in-Err.unread _ c.loop-test.true some c.in-Err.ensures c.loop.invariant

pub loop-preserved : goal.loop-preserved
loop-preserved c =
    let some : goes_on c.loop.rest.now ≡ true = search rules in
    rw c.in_ok-push-in-Ok.ensures.items (sym (many_step goes_on (command_in inner_forms) (length c.args.tokens.now) c.loop.counter c.loop.rest.now c.in-Ok.behind.now c.loop.found.items c.in-Ok.one c.loop-test.true some c.in-Ok.ensures) ∙ c.loop.invariant)
