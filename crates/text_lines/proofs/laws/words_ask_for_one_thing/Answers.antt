-- Answers to the goals of `laws::words_ask_for_one_thing`.
use Rattle.std.proofs.Common.{◌≡◌, ℕ, drop, sym, ◌∙◌, ap}
use Rattle.text_lines.specs.declared.asked.Asked.TheVariants.{Lines, Text}
use Rattle.text_lines.proofs.laws.words_ask_for_one_thing.Goals as goal

pub returns : goal.returns
returns c = record {
  lines = λ f t g u p q a b.
      let same : Lines f t p ≡ Lines g u q = sym ((c.what_is_asked.ensures.lines f t p).1 a) ∙ (c.what_is_asked.ensures.lines g u q).1 b in
      (cc, cc, cc);
  text = λ f t g u a b x y.
      let h = c.what_is_asked.ensures.text_only f t a x in
      let k = c.what_is_asked.ensures.text_only g u b y in
      let same : Text f t h.0 ≡ Text g u k.0 = sym h.1 ∙ k.1 in
      let starts : h.0 ≡ k.0 = cc in
      (cc, cc, h.2 ∙ (ap (λ (s : ℕ). drop s c.args.words.now) starts ∙ sym k.2));
  apart = λ f t g u place text a b.
      let k = c.what_is_asked.ensures.text_only g u text b in
      let clash : Lines f t place ≡ Text g u k.0 = sym ((c.what_is_asked.ensures.lines f t place).1 a) ∙ k.1 in
      absurd cc;
}
