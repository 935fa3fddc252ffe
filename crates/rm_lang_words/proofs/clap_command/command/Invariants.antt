use Rattle.std.proofs.Common.{◌≡◌, take}
use Rattle.clap.specs.Words.{app_of}
use Rattle.rm_lang_words.specs.{Clap.{app_of_form}, Form.{form_of}}
use Rattle.rm_lang_words.proofs.clap_command.command.Given as goal

abbrev pub invariant-loop-entry : goal.invariant-loop-entry
invariant-loop-entry l = app_of l.command ≡ app_of_form (form_of (take l.entry-index l.form))
