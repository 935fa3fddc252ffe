use Rattle.std.proofs.Common.{◌≡◌, rules, sym, subst}
use Rattle.rm_live.specs.Parts.{IsNumbered, IsSound}
use Rattle.rm_machine.{specs.{Events.{standing_in}, State.{current_of, now_of}}, proofs.Opening.{opening-numbered, opening-sound}}
use Rattle.rm_machine.proofs.running.take_out.Goals as goal

pub returns-clause-numbered : goal.returns-clause-numbered
returns-clause-numbered c =
    let files : c.in_ok-standing_in.field-0.items ≡ standing_in c.args.state.now = search rules in
    subst IsNumbered (sym files) (opening-numbered c.args.state.now c.requires.sound c.requires.opened)

pub returns-clause-live : goal.returns-clause-live
returns-clause-live c =
    let s = c.args.state.now in
    let inc : c.base-base.result.current ≡ current_of s = search rules in
    let now : c.now-now.result ≡ now_of s = search rules in
    let files : c.in_ok-standing_in.field-0.items ≡ standing_in s = search rules in
    let logs : c.replace-2.result ≡ s.instance.logs = search rules in
    let tracker : c.replace-3.result ≡ s.instance.tracker = search rules in
    coe 1 0 (i. IsSound (record { inc = inc i; now = now i; files = files i; logs = logs i; tracker = tracker i })) (opening-sound s c.requires.sound c.requires.opened)
