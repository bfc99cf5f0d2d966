use mathlib.Core.Path.{◌≡◌, sym, ap, ◌∙◌}
use mathlib.Core.Bool.{true}
use Rattle.call.specs.Contract.{world}
use Rattle.block_table.specs.declared.Table.{Table}
use Rattle.image_reader.specs.Load.{fresh_ok}
use Rattle.image_reader.proofs.Loading.{described, described-is, room, is-loaded}
use Rattle.image_reader.proofs.load.Goals as goal

pub put_bytes-requires : goal.put_bytes-requires
unfolding fresh_ok
put_bytes-requires c =
    let x = world c.args.table c.args.upload.now c.args.response.now in
    let fresh : fresh_ok c.args.config x ≡ true = sym c.fresh_ok.ensures ∙ c.if-not-fresh_ok.false in
    let table_is : c.in-Some.new ≡ described c.args.image.now = c.in-Some.ensures.table ∙ sym (described-is _) in
    rw (ap (λ (t : Table). t.entries) table_is) (room c.args.config x c.args.image.now fresh (sym c.in-Some.ensures.ok))

pub returns : goal.returns
unfolding fresh_ok
returns c =
    let x = world c.args.table c.args.upload.now c.args.response.now in
    let fresh : fresh_ok c.args.config x ≡ true = sym c.fresh_ok.ensures ∙ c.if-not-fresh_ok.false in
    let table_is : c.in-Some.new ≡ described c.args.image.now = c.in-Some.ensures.table ∙ sym (described-is _) in
    let put_in = rw (ap (λ (t : Table). t.entries) table_is) at c.put_bytes.ensures in
    rw table_is (is-loaded c.args.config x c.args.image.now fresh (sym c.in-Some.ensures.ok) _ _ put_in.0 put_in.1)
