use Rattle.std.proofs.Common.{◌≡◌, ◌∙◌, ◌||◌, Bool, length, ap, arith}
use Rattle.abs_graph.specs.BitSets.{has, word_has}
use Rattle.abs_graph.proofs.BitSetLemmas.{word_has-view, length-view, has-written, length-written}
use Rattle.abs_graph.proofs.bit_set.BitSet.add_all.Goals as goal

pub join-requires : goal.join-requires
join-requires c =
    omega (
      arith,
      c.requires,
      length-view c.as_mut_slice.result.now c.self.inside.words.items c.args.self.now c.as_mut_slice.ensures.value
          c.self.view_is,
      length-view c.as_slice.result.now c.others.inside.words.items c.args.others.now c.as_slice.ensures.value
          c.others.view_is,
    )

pub returns-clause-room : goal.returns-clause-room
returns-clause-room c =
    let len : length c.join.new.words ≡ c.self.inside.words.len = omega arith in
    let before = length-view c.as_mut_slice.result.now c.self.inside.words.items c.args.self.now
    c.as_mut_slice.ensures.value c.self.view_is in
    let after = length-written c.self.inside.words c.join.new.words len in
    omega (arith, before, after)

pub returns-clause-added : goal.returns-clause-added
returns-clause-added c = λ number.
    let len : length c.join.new.words ≡ c.self.inside.words.len = omega arith in
    has-written c.self.inside.words c.join.new.words number len
    ∙ (c.join.ensures number
    ∙ (ap (λ (b : Bool). b || word_has c.as_slice.result.now number)
    (word_has-view c.as_mut_slice.result.now c.self.inside.words.items c.args.self.now c.as_mut_slice.ensures.value
    c.self.view_is number)
    ∙ ap (λ (b : Bool). has c.args.self.now number || b)
    (word_has-view c.as_slice.result.now c.others.inside.words.items c.args.others.now c.as_slice.ensures.value
    c.others.view_is number)))
