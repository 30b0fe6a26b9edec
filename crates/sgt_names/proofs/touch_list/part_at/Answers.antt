use Rattle.sgt_names.proofs.AtSite.{points_rise, part-between}
use Rattle.sgt_names.proofs.touch_list.part_at.Goals as goal

pub slice_bounds-result-start : goal.slice_bounds-result-start
slice_bounds-result-start c =
    points_rise _ _ _ _ c.count_below-from.ensures.point c.count_upto-to.ensures.point c.count_below-from.ensures.within

pub slice_bounds-result-count : goal.slice_bounds-result-count
slice_bounds-result-count c =
    points_rise _ _ _ _ c.count_below-from.ensures.point c.count_upto-to.ensures.point c.count_below-from.ensures.within

pub returns : goal.returns
returns c = part-between _ _ _ _ c.count_below-from.ensures.point c.count_upto-to.ensures.point
    (points_rise _ _ _ _ c.count_below-from.ensures.point c.count_upto-to.ensures.point
    c.count_below-from.ensures.within)
