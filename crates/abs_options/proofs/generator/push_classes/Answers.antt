use Rattle.std.proofs.Common.{◌≡◌, ◌∙◌, ◌+◌, ◌++◌, suc, arith, string_bytes, sym, ap, append_assoc}
use Rattle.std.proofs.lemmas.List.{append-nil}
use Rattle.abs_options.specs.Generated.{class_line, class_lines}
use Rattle.abs_options.proofs.generator.push_classes.Goals as goal

pub loop-before-init : goal.loop-before-init
unfolding class_lines
loop-before-init c = sym (append-nil (string_bytes c.args.text.now))

pub loop-before-preserved : goal.loop-before-preserved
unfolding class_lines
loop-before-preserved c =
    let next : suc c.loop-before.before ≡ c.loop-before.before + 1 = omega arith in
    c.in_ok-push_class.ensures
    ∙ (ap (λ it. it ++ class_line (suc c.loop-before.before)) c.loop-before.invariant
    ∙ (append_assoc (string_bytes c.args.text.now) (class_lines c.loop-before.before) (class_line (suc c.loop-before.before))
    ∙ ap (λ it. string_bytes c.args.text.now ++ class_lines it) next))
