use Rattle.std.proofs.Common.{ap, ap₂, sym, true, ◌∙◌}
use Rattle.clap.specs.{Words.{Shape, with_rule}, Simple.{app_of_fields, on_top}, declared.builder.Command.{Command, TheOpen.{Command-F}}}
use Rattle.rm_lang_words.proofs.Clap.{one_more}
use Rattle.rm_lang_words.proofs.clap_command.command.Goals as goal

pub loop-entry-init : goal.loop-entry-init
loop-entry-init c =
    let set = c.disable_version_flag-command.ensures
    ∙ ap (λ (f : Command-F Command). record f { disable_version_flag = true }) (c.disable_help_flag.ensures ∙ ap (λ (f : Command-F Command). record f { disable_help_flag = true }) c.no_binary_name.ensures) in
    ap app_of_fields set ∙ ap (on_top (λ (s : Shape). record s { no_binary_name = true; disable_help_flag = true; disable_version_flag = true })) c.new.ensures.app

pub loop-entry-preserved : goal.loop-entry-preserved
loop-entry-preserved c =
    c.in_ok-command.ensures.shape c.argument.ensures.alone
    ∙ ap₂ with_rule c.loop-entry.invariant c.argument.ensures.rule
    ∙ sym (one_more c.args.form.now c.loop-entry.entry-index _ c.loop-entry-test.true)
