use mathlib.Core.Path.{sym, ap, ◌∙◌}
use Rattle.keys.specs.declared.Key.{Key}
use Rattle.keys.specs.Keys.{key_of, tag_of, named_of}
use Rattle.keys.proofs.Keys.{key-short, key-stored}
use Rattle.named_keys.proofs.named.Goals as goal

pub stored_key-key-requires : goal.stored_key-key-requires
stored_key-key-requires c = key-short _ (sym c.key_ok.ensures ∙ c.if-key_ok.true)

pub returns-then-key_ok : goal.returns-then-key_ok
unfolding named_of
returns-then-key_ok c =
    let stores = c.stored_key-key.ensures in
    let own = c.tag.ensures ∙ ap (λ (z : Key). tag_of (key_of z)) stores ∙ ap tag_of (key-stored _) in
    rw (sym c.key_ok.ensures ∙ c.if-key_ok.true, stores, own)

pub returns : goal.returns
unfolding named_of
returns c = rw (sym c.key_ok.ensures ∙ c.if-key_ok.false, c.no_key.ensures)
