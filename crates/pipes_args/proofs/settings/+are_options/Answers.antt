use Rattle.std.proofs.Common.{◌∙◌, sym, string_bytes}
use Rattle.pipes_args.proofs.Options.{pair_new, pair_old}
use Rattle.pipes_args.proofs.settings.+are_options.Goals as goal

pub returns-then-is_new : goal.returns-then-is_new
returns-then-is_new t c = c.are_options.ensures
    ∙ pair_new string_bytes c.args.words.now c.name-item.result c.as_str.result.now
    c.in-len2-up.len_at_least c.name-item.is c.as_str.ensures.value
    (sym c.is_new.ensures ∙ c.if-is_new.true)

pub returns-else-is_new : goal.returns-else-is_new
returns-else-is_new t c =
    pair_old string_bytes c.args.words.now c.name-item.result c.as_str.result.now
    c.in-len2-up.len_at_least c.name-item.is c.as_str.ensures.value
    (sym c.is_new.ensures ∙ c.if-is_new.false)
