use Rattle.std.{specs.String.{string_bytes}, proofs.Common.{◌∙◌, Some, map, sym, ap}}
use Rattle.rm_lang_words.{specs.{Resync.{resync_by, resync_form, resync_said}, Reading.{AreOf, resync_of}}, proofs.Told.{fails, untold}}
use Rattle.rm_lang_words.proofs.resync.read_resync.Goals as goal

pub returns-in_err-options : goal.returns-in_err-options
returns-in_err-options c =
    let are : AreOf resync_form c.args.words.now (map string_bytes c.deref.result.now) = c.in_ok-words.ensures ∙ ap (λ ws. Some (map string_bytes ws)) (sym c.deref.ensures.value) in
    record {
      said = fails resync_of c.from_residual-in_err-options.result c.in_err-options.field-0.0 (resync_said c.args.words.now) c.from_residual-in_err-options.ensures.1
          (λ bad. untold resync_form resync_by c.args.words.now (c.in_err-options.ensures.refused bad c.args.words.now are));
    }
