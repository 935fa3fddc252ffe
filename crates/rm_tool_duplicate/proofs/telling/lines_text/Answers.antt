use Rattle.std.proofs.Common.{◌∙◌, ap, sym, subst}
use Rattle.rm_lang_words.specs.Reading.{duplicate_of}
use Rattle.rm_report.specs.Reply.{HasDates, said}
use Rattle.rm_tool_duplicate.proofs.Lines.{lines-dated}
use Rattle.rm_tool_duplicate.proofs.telling.lines_text.Goals as goal

pub bytes_of-requires : goal.bytes_of-requires
bytes_of-requires c =
    let is = c.reply_of.ensures ∙ ap said c.in_ok-lines.ensures in
    record { dates = subst HasDates (sym is) (lines-dated (duplicate_of c.args.said.now) c.args.duplicate.now) }
