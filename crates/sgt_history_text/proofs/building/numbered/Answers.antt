use Rattle.json.specs.Value.{value_view}
use Rattle.sgt_history.specs.Transaction.{renamed_value}
use Rattle.sgt_history_text.specs.Parsed.{seen}
use Rattle.sgt_history_text.proofs.Kept.{given_numbers, key_numbers}
use Rattle.sgt_history_text.proofs.building.numbered.Goals as goal

pub number-requires : goal.number-requires
number-requires c = key_numbers 0 1024 (value_view c.args.lent.now.item.now) c.requires.item_is

pub number_given-requires : goal.number_given-requires
number_given-requires c = given_numbers (renamed_value seen c.args.lent.now.value) c.requires.value_is
