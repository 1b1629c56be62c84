-- The counts are low, so no product and no sum is too great.
use Rattle.files.proofs.SavedSizes.{size_told}
use Rattle.files.proofs.save.file_size.Goals as goal

pub returns : goal.returns
returns c = size_told c.args.counts.now c.args.elements.now c.wide-d.ensures.value c.wide-n.ensures.value c.wide-v.ensures.value
    c.wide-h.ensures.value c.elements_size-records.ensures.value
