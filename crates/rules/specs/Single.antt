-- To be sound is a proposition, so a ghost field can hold it.
use Rattle.std.specs.Prelude.{ℕ}
use Rattle.std.proofs.Math.Bridge.{le_prop}
use denote.Struct.Props.{props}
use Rattle.rules.specs.declared.parts.Alternative.{Alternative}
use Rattle.rules.specs.Rules.{System, Rule, Sound, SoundRule, SoundAlternative}

alternative_single : (places : ℕ) (a : Alternative) → IsProp (SoundAlternative places a)
alternative_single places a = hlevel props

rule_single : (places : ℕ) (x : Rule) → IsProp (SoundRule places x)
rule_single places rule x y = λ i. record {
  within = le_prop x.within y.within i;
  some = le_prop x.some y.some i;
  few = le_prop x.few y.few i;
  each = λ a h. alternative_single places _ (x.each a h) (y.each a h) i;
}

pub sound_single : (m : System) → IsProp (Sound m)
sound_single m x y = λ i. record {
  some = le_prop x.some y.some i;
  few = le_prop x.few y.few i;
  few_rules = le_prop x.few_rules y.few_rules i;
  each = λ r h. rule_single m.places _ (x.each r h) (y.each r h) i;
}
