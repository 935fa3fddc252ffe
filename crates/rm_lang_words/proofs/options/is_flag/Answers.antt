use Rattle.std.proofs.{Common.{rules, tests, ◌∙◌}, lemmas.Iterator.{YieldsList-from_slice, Search.{any_from_yields_List}}}
use Rattle.clap.proofs.WalkLemmas.{list_any-map}
use Rattle.rm_lang_words.specs.{Form.{entry_of, is_flag_named}, declared.form.Entry.{Entry as EntryInCode}}
use Rattle.rm_lang_words.proofs.options.is_flag.Goals as goal

pub returns : goal.returns
returns c =
    any_from_yields_List (λ (e : EntryInCode). is_flag_named c.args.name.now (entry_of e)) _ _ c.any.result c.any.ensures.ran (YieldsList-from_slice c.args.form.now c.iter.ensures.rest)
    (λ x b q k. search (rules, tests))
    ∙ list_any-map (is_flag_named c.args.name.now) entry_of c.args.form.now
