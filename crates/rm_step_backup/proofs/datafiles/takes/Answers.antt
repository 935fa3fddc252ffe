use Rattle.std.{specs.Option.{option_map_or}, proofs.Common.{◌≡◌, ◌∙◌, Option, ap, false, rules, sym}}
use Rattle.rm_history.specs.declared.world.Datafile.{Datafile}
use Rattle.rm_machine.specs.{Backup.{asks_for}, State.{on_path}}
use Rattle.rm_step_backup.proofs.Takes.{takes-is}
use Rattle.rm_step_backup.proofs.datafiles.takes.Goals as goal

pub returns-in-Some : goal.returns-in-Some
returns-in-Some c =
    let s = c.args.state.now in
    let b = c.args.form.now in
    let at : c.from.result ≡ c.args.number = search rules in
    c.asks_for.ensures
    ∙ sym (takes-is s b c.args.number ∙ ap (λ (o : Option Datafile). option_map_or (λ (d : Datafile). asks_for b c.args.number) o false) (ap (on_path s) (sym at) ∙ sym c.on_path.ensures.value ∙ c.in-Some.is))

pub returns-in-None : goal.returns-in-None
returns-in-None c =
    let s = c.args.state.now in
    let b = c.args.form.now in
    let at : c.from.result ≡ c.args.number = search rules in
    sym (takes-is s b c.args.number ∙ ap (λ (o : Option Datafile). option_map_or (λ (d : Datafile). asks_for b c.args.number) o false) (ap (on_path s) (sym at) ∙ sym c.on_path.ensures.value ∙ c.in-None.is))
