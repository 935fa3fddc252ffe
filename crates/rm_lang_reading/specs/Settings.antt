-- The statements that set something, and the command that each one is.
use Rattle.std.specs.Prelude.{◌-◌, ◌^◌, Some, codes}
use Rattle.rm_lang_grammar.specs.Grammar.{◌▸◌, Grammar, Values, Choice, first, second, end, semicolon, word, number, text, either, in_range}
use Rattle.rm_lang_grammar.specs.Forms.{Form}
use Rattle.rm_lang_statement.specs.{Texts.{plain}, declared.command.RetentionForm.{RetentionForm}}
use Rattle.rm_lang_statement.specs.declared.command.{RetentionForm.TheVariants.{Window, Redundancy, Nothing, Clear}, Command.{Command}}
use Rattle.rm_lang_statement.specs.declared.command.Command.TheVariants.{Retention, Parallelism, CatalogName}

-- RECOVERY WINDOW OF n DAYS
abbrev pub window_part : Grammar
window_part = word (codes "RECOVERY") ▸ word (codes "WINDOW") ▸ word (codes "OF") ▸ number (in_range 1 (2 ^ 64 - 1)) ▸ word (codes "DAYS") ▸ end

-- REDUNDANCY n
abbrev pub redundancy_part : Grammar
redundancy_part = word (codes "REDUNDANCY") ▸ number (in_range 1 (2 ^ 64 - 1)) ▸ end

-- the latter, or NONE
abbrev pub redundancy_or_none : Grammar
redundancy_or_none = either redundancy_part (word (codes "NONE") ▸ end) ▸ end

-- TO one of the three
abbrev pub policy_part : Grammar
policy_part = word (codes "TO") ▸ either window_part redundancy_or_none ▸ end

abbrev pub redundancy_or_none_by : Choice (Values redundancy_part) (Unit {0}) → RetentionForm
redundancy_or_none_by (first v) = Redundancy v.0
redundancy_or_none_by (second v) = Nothing

abbrev pub policy_by : Choice (Values window_part) (Values redundancy_or_none) → RetentionForm
policy_by (first v) = Window v.0
policy_by (second v) = redundancy_or_none_by v.0

abbrev pub retention_by : Choice (Values policy_part) (Unit {0}) → RetentionForm
retention_by (first v) = policy_by v.0
retention_by (second v) = Clear

-- CONFIGURE RETENTION POLICY (TO (RECOVERY WINDOW OF n DAYS | REDUNDANCY n | NONE) | CLEAR)
abbrev pub retention_line : Grammar
retention_line = word (codes "CONFIGURE") ▸ word (codes "RETENTION") ▸ word (codes "POLICY") ▸ either policy_part (word (codes "CLEAR") ▸ end) ▸ semicolon

unfoldable pub retention : Form Command
retention = record { line = retention_line; meaning = λ v. Some (Retention (retention_by v.0)) }

-- CONFIGURE DEVICE TYPE DISK PARALLELISM n
abbrev pub parallelism_line : Grammar
parallelism_line = word (codes "CONFIGURE") ▸ word (codes "DEVICE") ▸ word (codes "TYPE") ▸ word (codes "DISK") ▸ word (codes "PARALLELISM") ▸ number (in_range 1 (2 ^ 64 - 1)) ▸ semicolon

unfoldable pub parallelism : Form Command
parallelism = record { line = parallelism_line; meaning = λ v. Some (Parallelism v.0) }

-- CATALOG 't'
abbrev pub catalog_line : Grammar
catalog_line = word (codes "CATALOG") ▸ text plain ▸ semicolon

unfoldable pub catalog : Form Command
catalog = record { line = catalog_line; meaning = λ v. Some (CatalogName v.0) }
