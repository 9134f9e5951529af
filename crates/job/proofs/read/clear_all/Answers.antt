-- `job::read::clear_all` meets its contract: arrays that are filled with zeros. Assumes nothing.
use Rattle.std.proofs.Common.{ℕ, ap, ◌∙◌}
use Rattle.std.specs.Prelude.{replicate}
use Rattle.job.specs.Job.{zeros}
use Rattle.job.proofs.read.clear_all.Goals as goal

pub returns : goal.returns
unfolding zeros
returns c = (
  c.fill.ensures.after (λ y e. e) ∙ ap (λ (n : ℕ). replicate n 0) c.requires.0,
  c.fill-2.ensures.after (λ y e. e) ∙ ap (λ (n : ℕ). replicate n 0) c.requires.1,
  c.fill-3.ensures.after (λ y e. e) ∙ ap (λ (n : ℕ). replicate n 0) c.requires.2,
)
