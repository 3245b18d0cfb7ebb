mod InterleavingLaws
mod WholenessLaws
mod RunnerLaws
mod RingRows
