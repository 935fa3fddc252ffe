-- The blocks that a BLOCKRECOVER names.
use Rattle.std.specs.{Prelude.{◌≡◌, Option, None}, Option.{option_and_then, option_map}}
use Rattle.rm_base.specs.declared.refusal.Refusal.{Refusal, TheVariants.{Rm18}}
use Rattle.rm_lang_statement.specs.declared.command.RepairForm.{RepairForm}
use Rattle.rm_machine.specs.{BlockRecoverRefusal.{absent_named, sound_named}, declared.state.State.{State}}

-- all that it names is there
abbrev pub AreThere : State → RepairForm → Type 0
AreThere s form = option_and_then (absent_named s) form.blocks ≡ None

-- the refusal of the least block that it names and that is not damaged
abbrev pub sound_refusal : State → RepairForm → Option Refusal
sound_refusal s form = option_and_then (λ n. option_map (λ b. Rm18 n.file b) (sound_named s n)) form.blocks
