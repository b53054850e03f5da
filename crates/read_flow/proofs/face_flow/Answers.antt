-- `read_flow::face_flow` meets its contract: at each return the tests on the way give the definition's answer.
use Rattle.std.proofs.Common.{refl, sym, ap₂, ◌∙◌, ◌||◌}
use Rattle.read_flow.proofs.Order.{Begun, refused_14, site_small, refused_12, refused_7, refused_8, ahead_asks, given_ahead, back_asks, turned_fits, given_back}
use Rattle.read_flow.proofs.face_flow.Goals as goal

pub returns-then-not-valid : goal.returns-then-not-valid
returns-then-not-valid c =
    refused_14 _ _ _ _ (sym c.valid.ensures ∙ c.if-not-valid.true)

pub leads-forth-requires : goal.leads-forth-requires
leads-forth-requires c =
    site_small _ c.args.from c.args.to c.args.dt (sym c.valid.ensures ∙ c.if-not-valid.false)

pub leads-back-requires : goal.leads-back-requires
leads-back-requires c =
    site_small _ c.args.from c.args.to c.args.dt (sym c.valid.ensures ∙ c.if-not-valid.false)

pub returns-then-not-forth-back : goal.returns-then-not-forth-back
returns-then-not-forth-back c =
    refused_12 _ _ _ _ (sym c.valid.ensures ∙ c.if-not-valid.false) (sym (ap₂ ◌||◌ (c.leads-forth.ensures _ refl) (c.leads-back.ensures _ refl)) ∙ c.if-not-forth-back.true)

pub returns-then-out : goal.returns-then-out
returns-then-out c =
    refused_7 _ _ _ _ (sym c.valid.ensures ∙ c.if-not-valid.false) (sym (ap₂ ◌||◌ (c.leads-forth.ensures _ refl) (c.leads-back.ensures _ refl)) ∙ c.if-not-forth-back.false) (sym c.length_out-out.ensures ∙ c.if-out.true)

pub returns-then-not-stable : goal.returns-then-not-stable
returns-then-not-stable c =
    refused_8 _ _ _ _ (sym c.valid.ensures ∙ c.if-not-valid.false) (sym (ap₂ ◌||◌ (c.leads-forth.ensures _ refl) (c.leads-back.ensures _ refl)) ∙ c.if-not-forth-back.false) (sym c.length_out-out.ensures ∙ c.if-out.false) (sym c.stable.ensures ∙ c.if-not-stable.true)

pub ahead-requires : goal.ahead-requires
ahead-requires c =
    let b : Begun c.args.record c.args.from c.args.to c.args.dt = record {
      passed = sym c.valid.ensures ∙ c.if-not-valid.false;
      face = sym (ap₂ ◌||◌ (c.leads-forth.ensures _ refl) (c.leads-back.ensures _ refl)) ∙ c.if-not-forth-back.false;
      sized = sym c.length_out-out.ensures ∙ c.if-out.false;
      steady = sym c.stable.ensures ∙ c.if-not-stable.false;
    } in
    ahead_asks _ _ _ _ b (sym (c.leads-forth.ensures _ refl) ∙ c.if-forth.true)

pub returns-then-forth : goal.returns-then-forth
returns-then-forth c =
    let b : Begun c.args.record c.args.from c.args.to c.args.dt = record {
      passed = sym c.valid.ensures ∙ c.if-not-valid.false;
      face = sym (ap₂ ◌||◌ (c.leads-forth.ensures _ refl) (c.leads-back.ensures _ refl)) ∙ c.if-not-forth-back.false;
      sized = sym c.length_out-out.ensures ∙ c.if-out.false;
      steady = sym c.stable.ensures ∙ c.if-not-stable.false;
    } in
    given_ahead _ _ _ _ b (sym (c.leads-forth.ensures _ refl) ∙ c.if-forth.true) _ c.ahead.ensures

pub ahead-water-requires : goal.ahead-water-requires
ahead-water-requires c =
    let b : Begun c.args.record c.args.from c.args.to c.args.dt = record {
      passed = sym c.valid.ensures ∙ c.if-not-valid.false;
      face = sym (ap₂ ◌||◌ (c.leads-forth.ensures _ refl) (c.leads-back.ensures _ refl)) ∙ c.if-not-forth-back.false;
      sized = sym c.length_out-out.ensures ∙ c.if-out.false;
      steady = sym c.stable.ensures ∙ c.if-not-stable.false;
    } in
    back_asks _ _ _ _ b (sym (c.leads-forth.ensures _ refl) ∙ c.if-forth.false)

pub overflow_sub-turned : goal.overflow_sub-turned
overflow_sub-turned c =
    let b : Begun c.args.record c.args.from c.args.to c.args.dt = record {
      passed = sym c.valid.ensures ∙ c.if-not-valid.false;
      face = sym (ap₂ ◌||◌ (c.leads-forth.ensures _ refl) (c.leads-back.ensures _ refl)) ∙ c.if-not-forth-back.false;
      sized = sym c.length_out-out.ensures ∙ c.if-out.false;
      steady = sym c.stable.ensures ∙ c.if-not-stable.false;
    } in
    turned_fits _ _ _ _ b (sym (c.leads-forth.ensures _ refl) ∙ c.if-forth.false) _ c.ahead-water.ensures

pub returns : goal.returns
returns c =
    let b : Begun c.args.record c.args.from c.args.to c.args.dt = record {
      passed = sym c.valid.ensures ∙ c.if-not-valid.false;
      face = sym (ap₂ ◌||◌ (c.leads-forth.ensures _ refl) (c.leads-back.ensures _ refl)) ∙ c.if-not-forth-back.false;
      sized = sym c.length_out-out.ensures ∙ c.if-out.false;
      steady = sym c.stable.ensures ∙ c.if-not-stable.false;
    } in
    given_back _ _ _ _ b (sym (c.leads-forth.ensures _ refl) ∙ c.if-forth.false) _ c.ahead-water.ensures
