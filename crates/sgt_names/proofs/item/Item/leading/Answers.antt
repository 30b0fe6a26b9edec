use Rattle.std.proofs.Common.{refl}
use Rattle.sgt_names.proofs.Stored.{front-padded, leading-is_name, leading-most, leading-spells, letters-begin, no-letters-front, stored-bytes, stored-name}
use Rattle.sgt_names.proofs.item.Item.leading.Goals as goal

pub kept_to-requires : goal.kept_to-requires
kept_to-requires c = leading-most c.args.bytes.now _ c.told-bytes c.name_bytes_len-len.ensures

pub invariant_of-item : goal.invariant_of-item
invariant_of-item c =
    let len = c.name_bytes_len-len.result in
    let is = leading-is_name c.args.bytes.now len c.told-bytes
    (letters-begin c.args.bytes.now _ c.letters_len.ensures c.if-letters_len-eq0.false)
    c.name_bytes_len-len.ensures in
    let few = leading-most c.args.bytes.now len c.told-bytes c.name_bytes_len-len.ensures in
    stored-name _ _ is (front-padded c.args.bytes.now c.kept_to.result len c.told-bytes few c.kept_to.ensures)

pub returns-then-letters_len-eq0-clause-is : goal.returns-then-letters_len-eq0-clause-is
returns-then-letters_len-eq0-clause-is c = (
  λ e. absurd (cc e),
  λ s. absurd (no-letters-front c.args.bytes.now _ s.0 c.letters_len.ensures c.if-letters_len-eq0.true s.1),
)

pub returns-clause-is : goal.returns-clause-is
returns-clause-is c =
    let len = c.name_bytes_len-len.result in (
      λ _. (
        len,
        leading-spells c.args.bytes.now len c.told-bytes
            (letters-begin c.args.bytes.now _ c.letters_len.ensures c.if-letters_len-eq0.false)
            c.name_bytes_len-len.ensures,
      ),
      λ _. refl,
    )

pub returns-clause-some : goal.returns-clause-some
returns-clause-some c =
    let len = c.name_bytes_len-len.result in
    let spells =
    leading-spells c.args.bytes.now len c.told-bytes
    (letters-begin c.args.bytes.now _ c.letters_len.ensures c.if-letters_len-eq0.false)
    c.name_bytes_len-len.ensures in
    let few = leading-most c.args.bytes.now len c.told-bytes c.name_bytes_len-len.ensures in (
      spells,
      stored-bytes _ _ spells.1
          (front-padded c.args.bytes.now c.kept_to.result len c.told-bytes few c.kept_to.ensures),
    )
