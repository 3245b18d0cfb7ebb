mod ReadLaws
mod PutLaws
