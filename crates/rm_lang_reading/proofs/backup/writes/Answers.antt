use Rattle.std.proofs.{lemmas.List.{map-append}, Common.{◌≡◌, ◌∙◌, sym, ap, ◌∷◌, [], rules, arith, codes, map, length, ◌-◌, true, false}}
use Rattle.rm_lang_grammar.{specs.Reading.{begins_with}, proofs.Manys.{many_first, many_step, many_stops, many_ends, many_err}}
use Rattle.rm_lang_reading.specs.{Backups.{write_at}, Values.{write_values}}
use Rattle.rm_lang_reading.proofs.backup.writes.Goals as goal

pub loop-init : goal.loop-init
loop-init c = rw c.new-writes.ensures.items (many_first (begins_with (codes "WRITE")) write_at (length c.args.tokens.now) c.args.tokens.now)

pub returns-then-not-begins_with : goal.returns-then-not-begins_with
returns-then-not-begins_with c =
    let none : begins_with (codes "WRITE") c.loop.rest.now ≡ false = search rules in
    sym c.loop.invariant ∙ rw c.from_vec.ensures (many_stops (begins_with (codes "WRITE")) write_at _ c.loop.rest.now (map write_values c.loop.writes.items) none)

pub returns-then-begins_with : goal.returns-then-begins_with
returns-then-begins_with c =
    let some : begins_with (codes "WRITE") c.loop.rest.now ≡ true = search rules in
    let left : length c.args.tokens.now - c.loop.counter ≡ 0 = omega (arith, c.loop-test.false) in
    sym c.loop.invariant ∙ many_ends (begins_with (codes "WRITE")) write_at _ c.loop.rest.now (map write_values c.loop.writes.items) left some

pub returns : goal.returns
returns c =
    let none : begins_with (codes "WRITE") c.loop.rest.now ≡ false = search rules in
    sym c.loop.invariant ∙ rw c.from_vec-2.ensures (many_stops (begins_with (codes "WRITE")) write_at _ c.loop.rest.now (map write_values c.loop.writes.items) none)

pub returns-in-Err : goal.returns-in-Err
returns-in-Err c =
    let some : begins_with (codes "WRITE") c.loop.rest.now ≡ true = search rules in
    many_err (begins_with (codes "WRITE")) write_at (length c.args.tokens.now) c.loop.counter c.loop.rest.now (map write_values c.loop.writes.items) c.in-Err.unread _ c.loop-test.true some c.in-Err.ensures c.loop.invariant

pub loop-preserved : goal.loop-preserved
loop-preserved c =
    let some : begins_with (codes "WRITE") c.loop.rest.now ≡ true = search rules in
    let pushed = ap (λ ws. map write_values ws) c.in_ok-push-in-Ok.ensures.items ∙ map-append write_values c.loop.writes.items (c.in-Ok.write ∷ []) in
    rw pushed (sym (many_step (begins_with (codes "WRITE")) write_at (length c.args.tokens.now) c.loop.counter c.loop.rest.now c.in-Ok.behind.now (map write_values c.loop.writes.items) (write_values c.in-Ok.write) c.loop-test.true some c.in-Ok.ensures) ∙ c.loop.invariant)
