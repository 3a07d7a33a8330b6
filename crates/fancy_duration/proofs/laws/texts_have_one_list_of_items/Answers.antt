-- Answers to the goals of the law `texts_have_one_list_of_items`.
use Rattle.std.proofs.Common.{sym, ◌∙◌}
use Rattle.fancy_duration.specs.inside.Reading.{items_of}
use Rattle.fancy_duration.proofs.ItemLists.{items_unique, items_exist}
use Rattle.fancy_duration.proofs.laws.texts_have_one_list_of_items.Goals as goal

pub returns-clause-some : goal.returns-clause-some
returns-clause-some c text = (items_of text, items_exist text)

pub returns-clause-one : goal.returns-clause-one
returns-clause-one c text a b ha hb = sym (items_unique a text ha) ∙ items_unique b text hb
