-- `on_label_end` takes the step `label_end`. Assumes nothing.
use mathlib.Core.Path.{◌∙◌}
use Rattle.std.proofs.lemmas.Result.{err_from_is_err_and}
use Rattle.newick.specs.declared.Mode.TheVariants.{Inside}
use Rattle.newick.proofs.MachineLaws.{end_stops, end_goes_on, leaf_ready}
use Rattle.newick.proofs.Reader.on_label_end.Goals as goal

pub returns-in_err-on_leaf : goal.returns-in_err-on_leaf
returns-in_err-on_leaf c =
    let r = err_from_is_err_and c.from_residual.result c.from_residual.ensures.1 in
    let e = c.in_err-on_leaf.ensures (Inside c.args.first c.args.len) in
    rw (r.1, r.2)
    (record { progress = end_stops _ _ _ _ _ _ _ _ e.progress; edition_kept = e.edition_kept; text_kept = e.text_kept })

pub on_after-requires : goal.on_after-requires
on_after-requires c =
    let e = c.in_ok-on_leaf.ensures (Inside c.args.first c.args.len) in
    leaf_ready _ c.on_leaf.new.self _ _ _ _ _ e.progress c.args.self.now.few c.requires.one_more

pub returns : goal.returns
returns c =
    let e = c.in_ok-on_leaf.ensures (Inside c.args.first c.args.len) in
    let a = c.on_after.ensures in
    record {
      progress = a.progress ∙ end_goes_on _ c.on_leaf.new.self _ _ _ _ _ e.progress _ _;
      edition_kept = a.edition_kept ∙ e.edition_kept;
      text_kept = a.text_kept ∙ e.text_kept;
    }
